use Rattle.sb_models.proofs.KindFacts.{AreKindsFrom}
use Rattle.sb_models.proofs.kinds.are_kinds.Given as goal

abbrev pub invariant-loop-place : goal.invariant-loop-place
invariant-loop-place l = AreKindsFrom l.constants l.values l.place
