-- What a caller cites of lines that are put, of a trace that grows, of regexes that get numbers and of those that a word
-- leads to, of the numbers of regexes in an order, and of what is spent.
pub use Rattle.sb_trace.proofs.Puts.{puts_none, puts_one, puts_both}
pub use Rattle.sb_trace.proofs.Growing.{tracks_grow, stays_same, only_numbers_same, only_numbers_both, number_kept, expanded_same}
pub use Rattle.sb_trace.proofs.Reached.{reached_grows}
pub use Rattle.sb_trace.proofs.Positions.{number-there, number-below}
pub use Rattle.sb_trace.proofs.Spent.{spent_none, spent_same, spent_one, spent_both}
pub use Rattle.sb_trace.proofs.Exits.{counts_none, counts_on}
