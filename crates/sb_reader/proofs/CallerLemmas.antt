-- What a caller cites of tokens, forms, entries and of what bytes shorten to.
pub use Rattle.sb_reader.proofs.Passes.{all_pass_is}
pub use Rattle.sb_reader.proofs.FirstEntries.{beginning_stays, beginning_grows, beginning_is_first}
pub use Rattle.sb_reader.proofs.Shortening.{shortens_to_itself, shortens_twice, shortens_before, same_entry, same_none, same_end}
