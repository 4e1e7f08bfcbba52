use Rattle.std.proofs.Common.{map, ap, ap₂, sym, ◌∙◌}
use Rattle.std.proofs.lemmas.Result.{IfOk-from_err}
use Rattle.sb_script.specs.Scopes.{constants_in}
use Rattle.sb_script.specs.Steps.{answers, line, list_text}
use Rattle.sb_sorts.specs.Scopes.{names_in}
use Rattle.sb_stack.specs.Assumptions.{named_by, assumption_said}
use Rattle.sb_stack.specs.Stacked.{Stacked, state_of}
use Rattle.sb_stack.specs.Values.{constant_in}
use Rattle.sb_stack.proofs.AssumedFacts.{texts_are}
use Rattle.sb_stack.proofs.Changes.{constants_live}
use Rattle.sb_stack.proofs.NamesBySerial.{constants_rise}
use Rattle.sb_stack.proofs.Replying.{said_as}
use Rattle.sb_stack.proofs.stack.Stack.contradicting.Goals as goal

pub returns-in_err-constants : goal.returns-in_err-constants
returns-in_err-constants c = IfOk-from_err c.from_residual.result _ c.from_residual.ensures.0

pub assumptions_line-requires : goal.assumptions_line-requires
assumptions_line-requires c =
    constants_rise c.self.inside.table c.declared-declared.result c.self.inside.scope.names c.deref.result.now
    (ap (map constant_in) c.deref.ensures.value ∙ c.in_ok-constants.ensures c.self.inside.table)
    c.declared-declared.ensures.serials

pub returns : goal.returns
returns c =
    let k = c.args.self.now in
    let s = state_of k in
    let constants = ap (map constant_in) c.deref.ensures.value ∙ c.in_ok-constants.ensures c.self.inside.table
    ∙ ap (λ (k : Stacked). constants_in (names_in k.table k.scope)) c.self.view_is ∙ sym (constants_live k) in
    let given = c.as_slice.ensures.value ∙ ap (λ (k : Stacked). k.unsat_assumptions) c.self.view_is in
    let texts = texts_are s k.unsat_assumptions
    ∙ ap₂ (λ cs xs. map assumption_said (map (named_by cs) xs)) (sym constants) (sym given) in
    said_as _ _ c.assumptions_line.result s (ap (λ ts. answers (line (list_text ts)) s) texts)
    c.assumptions_line.ensures
