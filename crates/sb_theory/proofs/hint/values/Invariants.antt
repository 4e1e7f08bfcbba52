use Rattle.sb_theory.proofs.Words.{RegexesGrow}
use Rattle.sb_theory.proofs.hint.values.Given as goal

abbrev pub invariant-loop-literal : goal.invariant-loop-literal
invariant-loop-literal l = RegexesGrow l.fn.store l.store
