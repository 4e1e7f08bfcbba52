use Rattle.std.proofs.Common.{map, ap, sym, ◌∙◌}
use Rattle.std.proofs.lemmas.Result.{IfOk-from_err}
use Rattle.sb_script.specs.Scopes.{constants_in}
use Rattle.sb_script.specs.State.{constants_of}
use Rattle.sb_script.specs.Steps.{answers, error_line, line, list_text}
use Rattle.sb_script.specs.Replies.{definition_text}
use Rattle.sb_sorts.specs.Scopes.{names_in, constants_among, serials_in, ascend_below}
use Rattle.sb_stack.specs.Stacked.{Stacked, state_of, values_at}
use Rattle.sb_stack.specs.Values.{constant_in, definition_by}
use Rattle.sb_stack.proofs.Changes.{constants_live}
use Rattle.sb_stack.proofs.ByWords.{definitions}
use Rattle.sb_stack.proofs.Replying.{said_as}
use Rattle.sb_stack.proofs.stack.Stack.get_model.Goals as goal

pub returns-in_ok-constants-in-Ok : goal.returns-in_ok-constants-in-Ok
returns-in_ok-constants-in-Ok c =
    let k = c.args.self.now in
    let s = state_of k in
    let words = c.in-Ok.values.0.now in
    let truths = c.in-Ok.values.1.now in
    let model = c.in-Ok.ensures (λ v. answers (line (list_text (map (definition_text v) (constants_of s)))) s) in
    let constants = ap (map constant_in) c.deref.ensures.value ∙ c.in_ok-constants-in-Ok.ensures c.self.inside.table
    ∙ ap (λ (k : Stacked). constants_in (names_in k.table k.scope)) c.self.view_is in
    let texts = ap (map (definition_text (values_at (constants_among k.scope.names) words truths))) (constants_live k)
    ∙ definitions k.table c.declared-declared.result words truths k.scope.names
    (ap (λ (k : Stacked). ascend_below 0 c.declared-declared.result (serials_in k.scope.names)) (sym c.self.view_is)
    ∙ c.declared-declared.ensures.serials)
    ∙ ap (map (definition_by words truths)) (sym constants) in
    said_as _ _ c.model_line.result s (model ∙ ap (λ ts. answers (line (list_text ts)) s) texts) c.model_line.ensures

pub returns-in_err-constants-in-Ok : goal.returns-in_err-constants-in-Ok
returns-in_err-constants-in-Ok c = IfOk-from_err c.from_residual.result _ c.from_residual.ensures.0

pub returns-in-Err : goal.returns-in-Err
returns-in-Err c =
    let s = state_of c.args.self.now in
    said_as _ (error_line c.in-Err.message.now) c.error_line.result s
    (c.in-Err.ensures (λ v. answers (line (list_text (map (definition_text v) (constants_of s)))) s)) c.error_line.ensures
