use Rattle.std.proofs.Common.{◌≡◌, ◌∷◌, map, take}
use Rattle.sb_script.specs.Steps.{spaced}
use Rattle.sb_stack.specs.Values.{constant_in, definition_by}
use Rattle.sb_stack.proofs.value.model_line.Given as goal

abbrev pub invariant-loop-place : goal.invariant-loop-place
invariant-loop-place l =
    l.text.items
    ≡ 40 ∷ spaced (map (definition_by l.words l.truths) (map constant_in (take l.place l.constants)))
