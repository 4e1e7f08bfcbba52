-- What a caller cites of literals of one constant, of what they ask for in an arena that grows, of their clause, and of
-- the regexes that are expanded for it.
pub use Rattle.sb_clash.proofs.AskedFacts.{regex_below, in_all, clash_grown, explores_none, explores_arena}
pub use Rattle.sb_clash.proofs.FewerFacts.{one_if, count_cons}
pub use Rattle.sb_clash.proofs.DenialFacts.{is_denial, denied_all, list_permuted, tracks_kept}
pub use Rattle.sb_clash.proofs.ExpandedFacts.{expands_none, expands_one, expands_both}
