-- What a caller cites of interval maps: the values of pieces that ascend.
pub use Rattle.sb_deriv.proofs.PieceFacts.{above_stays, rises_head, rises_rest, rises_le, covers_first, covers_rises, starts_below, value_here, value_between}
pub use Rattle.sb_deriv.proofs.RangesTo.{value_after}
