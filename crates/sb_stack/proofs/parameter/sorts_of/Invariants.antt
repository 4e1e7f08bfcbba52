use Rattle.std.proofs.Common.{◌≡◌, map, take}
use Rattle.sb_sorts.specs.declared.read.Parameter.{Parameter}
use Rattle.sb_stack.proofs.parameter.sorts_of.Given as goal

abbrev pub invariant-loop-parameter : goal.invariant-loop-parameter
invariant-loop-parameter l =
    l.sorts.items ≡ map (λ (p : Parameter). p.sort) (take l.parameter-index l.parameters)
