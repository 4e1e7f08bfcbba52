use Rattle.std.proofs.Common.{◌≡◌, ◌∷◌, map, take}
use Rattle.sb_script.specs.Steps.{spaced}
use Rattle.sb_stack.specs.Assumptions.{named_by, assumption_said}
use Rattle.sb_stack.specs.Values.{constant_in}
use Rattle.sb_stack.proofs.assuming.assumptions_line.Given as goal

abbrev pub invariant-loop-place : goal.invariant-loop-place
invariant-loop-place l =
    l.text.items
    ≡ 40
    ∷ spaced (map assumption_said (map (named_by (map constant_in l.constants)) (take l.place l.assumptions)))
