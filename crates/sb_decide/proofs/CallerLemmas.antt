-- What a caller cites of terms that ask something of one constant's word: what they look like, mean and hold, when they
-- are decided, and which constants occur in them.
pub use Rattle.sb_decide.proofs.DemandFacts.{IsDemanding, an_asking, a_denial, demanded_looks, demanded_speaks, demanded_holds, decided_kind, denied_fits}
pub use Rattle.sb_decide.proofs.Questions.{asked_alone}
