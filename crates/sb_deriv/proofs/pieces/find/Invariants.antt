use Rattle.sb_deriv.proofs.pieces.find.Given as goal

abbrev pub invariant-loop-entry : goal.invariant-loop-entry
invariant-loop-entry l = Unit {0}
