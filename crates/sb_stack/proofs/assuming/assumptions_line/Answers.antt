use Rattle.sb_stack.specs.Assumptions.{named_by, assumption_said}
use Rattle.sb_stack.specs.Values.{constant_in}
use Rattle.sb_stack.proofs.Printing.{line_step, two_behind}
use Rattle.std.proofs.Common.{◌∷◌, ◌++◌, [], map, ap, ◌∙◌}
use Rattle.std.proofs.lemmas.List.{take_all}
use Rattle.sb_script.specs.Steps.{spaced}
use Rattle.sb_stack.proofs.assuming.assumptions_line.Goals as goal

pub loop-place-preserved : goal.loop-place-preserved
loop-place-preserved c =
    let by = named_by (map constant_in c.args.constants.now) in
    line_step assumption_said by c.args.assumptions.now c.loop-place.place c.index-assumptions-place.result
    c.loop-place.text.items c.push_gap.new.text.items c.push_assumption.new.text.items c.loop-place-test.true
    c.loop-place.invariant c.in_ok-push_gap.ensures
    (c.in_ok-push_assumption.ensures
    ∙ ap (λ a. c.push_gap.new.text.items ++ assumption_said (by a)) c.index-assumptions-place.is)

pub returns : goal.returns
returns c =
    let by = named_by (map constant_in c.args.constants.now) in
    let all = c.loop-place.invariant
    ∙ ap (λ xs. 40 ∷ spaced (map assumption_said (map by xs)))
    (take_all c.loop-place.place c.args.assumptions.now c.loop-place-test.false) in
    c.in_ok-extend_from_slice.ensures.items ∙ ap (λ r. r ++ (41 ∷ 10 ∷ [])) all
    ∙ ap (λ r. 40 ∷ r) (two_behind 41 10 _)
