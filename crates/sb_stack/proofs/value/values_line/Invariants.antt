use Rattle.std.proofs.Common.{◌≡◌, ◌∷◌, map, take}
use Rattle.sb_script.specs.Steps.{spaced}
use Rattle.sb_stack.specs.Values.{asked_in, value_by}
use Rattle.sb_stack.proofs.value.values_line.Given as goal

abbrev pub invariant-loop-place : goal.invariant-loop-place
invariant-loop-place l =
    l.text.items ≡ 40 ∷ spaced (map (value_by l.words l.truths) (map asked_in (take l.place l.constants)))
