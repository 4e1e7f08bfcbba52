use Rattle.std.proofs.Common.{Some, option_copied, map, refl, ap, sym, subst, ◌∙◌}
use Rattle.sb_reader.specs.Forms.{shape_of}
use Rattle.sb_script.specs.Commands.{parameters_of}
use Rattle.sb_sorts.specs.declared.read.Parameter.{Parameter}
use Rattle.sb_term.specs.Symbols.{sort_in}
use Rattle.sb_stack.specs.Commands.{forms_in}
use Rattle.sb_stack.specs.Defining.{AreParameters, sorts_in}
use Rattle.sb_stack.specs.Stacked.{state_of}
use Rattle.sb_stack.proofs.Definitions.{refused_of, free_name, made_left_out, sorts_left_out, defined_as}
use Rattle.sb_stack.proofs.Replying.{unanswered, replies_as}
use Rattle.sb_stack.proofs.stack.Stack.define_function.Goals as goal

pub returns-in_err-again : goal.returns-in_err-again
returns-in_err-again c =
    let k = c.args.self.now in unanswered _ c.from_residual.result k k refl c.from_residual.ensures.0

pub leave_definition_out-requires : goal.leave_definition_out-requires
leave_definition_out-requires c =
    free_name c.args.name.now (state_of c.args.self.now) _ (option_copied c.in_ok-again.again) c.refused_name-refused.ensures

pub returns-in_default : goal.returns-in_default
returns-in_default c =
    let k = c.args.self.now in
    let s = state_of k in
    let name = c.args.name.now in
    let refused = c.refused_name-refused.ensures ∙ ap (refused_of name s) c.in_ok-again.ensures in
    replies_as _ _ c.leave_definition_out.result k c.leave_definition_out.new.self
    (made_left_out name (parameters_of (forms_in c.args.parameters)) (shape_of c.args.sort) (shape_of c.args.body) s _ refused
    c.in_default.ensures) c.leave_definition_out.ensures

pub define-requires : goal.define-requires
define-requires c =
    free_name c.args.name.now (state_of c.args.self.now) _ (option_copied c.in_ok-again.again) c.refused_name-refused.ensures

pub leave_definition_out-requires-in-None : goal.leave_definition_out-requires-in-None
leave_definition_out-requires-in-None c =
    free_name c.args.name.now (state_of c.args.self.now) _ (option_copied c.in_ok-again.again) c.refused_name-refused.ensures

pub returns-in-Some-2 : goal.returns-in-Some-2
returns-in-Some-2 c =
    let k = c.args.self.now in
    let s = state_of k in
    let name = c.args.name.now in
    let ps = parameters_of (forms_in c.args.parameters) in
    let refused = c.refused_name-refused.ensures ∙ ap (refused_of name s) c.in_ok-again.ensures in
    let found = subst (AreParameters ps) c.in-Some-2.is c.in_ok-parameters.ensures in
    let lent = ap sorts_in (sym c.deref.ensures.value) in
    let names = ap (map (λ (p : Parameter). p.name.now)) c.deref.ensures.value in
    replies_as _ _ c.define.result k c.define.new.self
    (defined_as name ps (shape_of c.args.sort) (shape_of c.args.body) s _ c.deref.result.now (sort_in c.in-Some.sort) refused
    (found.0 ∙ ap Some lent) (names ∙ found.1) c.in-Some.ensures) c.define.ensures

pub returns-in-None : goal.returns-in-None
returns-in-None c =
    let k = c.args.self.now in
    let s = state_of k in
    let name = c.args.name.now in
    let ps = parameters_of (forms_in c.args.parameters) in
    let refused = c.refused_name-refused.ensures ∙ ap (refused_of name s) c.in_ok-again.ensures in
    let none_found = subst (AreParameters ps) c.in-None.is c.in_ok-parameters.ensures in
    replies_as _ _ c.leave_definition_out-in-None.result k c.leave_definition_out-in-None.new.self
    (sorts_left_out name ps (shape_of c.args.sort) (shape_of c.args.body) s _ refused none_found)
    c.leave_definition_out-in-None.ensures
