-- What a caller cites of what a reader keeps and of lines that are put, of clauses that are kept, of what is known of
-- them, and of the clauses of gates.
pub use Rattle.sb_refute.proofs.Backs.{backs-beside, backs-grown}
pub use Rattle.sb_refute.proofs.Asserting.{leads-none, structure-is, uncounted-both}
pub use Rattle.sb_refute.proofs.Clauses.{kept-cases, kept-stays, each-reserved, room-for-each}
pub use Rattle.sb_refute.proofs.Holding.{stand-atoms, stand-traced}
pub use Rattle.sb_refute.proofs.GateLines.{cons-cases, not-in-nil}
pub use Rattle.sb_refute.proofs.GateLiterals.{all-ordered, each-part, of-gate}
pub use Rattle.sb_refute.proofs.Settled.{gates-stay}
