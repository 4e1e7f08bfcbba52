use Rattle.std.proofs.Common.{map, Some, None, ◌∙◌}
use Rattle.sb_sorts.specs.Scopes.{constants_among}
use Rattle.sb_script.specs.Steps.{Step, answers, fails, is_unsupported, line, list_text}
use Rattle.sb_script.specs.Replies.{all_constants, value_text}
use Rattle.sb_stack.specs.Stacked.{state_of}
use Rattle.sb_stack.specs.Values.{item_in, answers_by}
use Rattle.sb_stack.proofs.Changes.{same_step, same_step_at}
use Rattle.sb_stack.proofs.ByWords.{values_answered}
use Rattle.sb_stack.proofs.stack.Stack.values_of.Goals as goal

pub returns-in-Ok : goal.returns-in-Ok
returns-in-Ok c =
    let items = map item_in c.args.items.now in
    let s = state_of c.args.self.now in
    let words = c.in-Ok.values.0.now in
    let truths = c.in-Ok.values.1.now in
    let constants = constants_among c.args.self.now.scope.names in
    same_step_at c.answer_values.result (answers_by words truths items) _ s c.answer_values.ensures
    (c.in-Ok.ensures (λ v. elim (all_constants items) as (λ _. Step) [
      | Some cs ↦ answers (line (list_text (map (value_text v) cs))) s
      | None ↦ is_unsupported s
    ])
    ∙ values_answered constants words truths items s c.requires)

pub returns-in-Err : goal.returns-in-Err
returns-in-Err c =
    let items = map item_in c.args.items.now in
    let s = state_of c.args.self.now in
    same_step c.fail.result _ (fails c.in-Err.message.now s) s c.fail.ensures
    (c.in-Err.ensures (λ v. elim (all_constants items) as (λ _. Step) [
      | Some cs ↦ answers (line (list_text (map (value_text v) cs))) s
      | None ↦ is_unsupported s
    ]))
