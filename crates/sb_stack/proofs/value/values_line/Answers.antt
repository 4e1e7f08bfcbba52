use Rattle.sb_stack.specs.Values.{asked_in, value_by}
use Rattle.sb_stack.proofs.Printing.{line_step, two_behind}
use Rattle.std.proofs.Common.{◌∷◌, ◌++◌, [], map, ap, ◌∙◌}
use Rattle.std.proofs.lemmas.List.{take_all}
use Rattle.sb_script.specs.Steps.{spaced}
use Rattle.sb_stack.proofs.value.values_line.Goals as goal

pub loop-place-preserved : goal.loop-place-preserved
loop-place-preserved c =
    line_step (value_by c.args.words.now c.args.truths.now) asked_in c.args.constants.now c.loop-place.place _
    c.loop-place.text.items c.push_gap.new.text.items c.push_answer.new.text.items c.loop-place-test.true
    c.loop-place.invariant c.in_ok-push_gap.ensures c.in_ok-push_answer.ensures

pub returns : goal.returns
returns c =
    let print = value_by c.args.words.now c.args.truths.now in
    let all = c.loop-place.invariant
    ∙ ap (λ xs. 40 ∷ spaced (map print (map asked_in xs)))
    (take_all c.loop-place.place c.args.constants.now c.loop-place-test.false) in
    c.in_ok-extend_from_slice.ensures.items ∙ ap (λ r. r ++ (41 ∷ 10 ∷ [])) all
    ∙ ap (λ r. 40 ∷ r) (two_behind 41 10 _)
