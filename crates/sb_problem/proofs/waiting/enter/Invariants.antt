use Rattle.std.proofs.Common.{◌≡◌, ◌++◌, ◌∷◌, map, take}
use Rattle.sb_problem.specs.Waiting.{enters, waits}
use Rattle.sb_problem.proofs.waiting.enter.Given as goal

abbrev pub invariant-loop-argument : goal.invariant-loop-argument
invariant-loop-argument l =
    l.waiting.items ≡ l.fn.waiting.items ++ enters l.fn.id ∷ map waits (take l.argument-index l.fn.arguments)
