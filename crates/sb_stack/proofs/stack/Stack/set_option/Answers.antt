use Rattle.std.proofs.Common.{Option, Some, None, IfOk, sym, ap, subst, refl, ◌∙◌}
use Rattle.sb_reader.specs.Forms.{Form, shape_of}
use Rattle.sb_script.specs.State.{State}
use Rattle.sb_script.specs.Steps.{Step, is_unsupported}
use Rattle.sb_stack.specs.Settings.{set_in}
use Rattle.sb_stack.specs.Stacked.{state_of}
use Rattle.sb_stack.specs.Taking.{IsAnswered}
use Rattle.sb_stack.proofs.Replying.{unchanged, replies_as}
use Rattle.sb_stack.proofs.stack.Stack.set_option.Goals as goal

-- what becomes of an option, where it is kept
abbrev by_setting : Form → State → Option (Form → State → Step) → Step
by_setting value s (Some set) = set value s
by_setting value s None = is_unsupported s

pub returns-in-None : goal.returns-in-None
returns-in-None c =
    let k = c.args.self.now in
    unchanged _ c.leave_out.result k k refl
    (subst (λ t. IfOk c.leave_out.result (λ text. IsAnswered t text (state_of k) (state_of k)))
    (ap (by_setting (shape_of c.args.value) (state_of k)) c.in-None.ensures.set) c.leave_out.ensures)

pub returns-in-Some-PrintSuccess : goal.returns-in-Some-PrintSuccess
returns-in-Some-PrintSuccess c =
    let k = c.args.self.now in
    let value = shape_of c.args.value in
    replies_as _ _ c.set_print_success.result k c.set_print_success.new.self
    (ap (by_setting value (state_of k)) (sym c.in-Some-PrintSuccess.ensures.set)
    ∙ ap (λ setting. set_in setting value (state_of k)) c.in-Some-PrintSuccess.field-0-is)
    c.set_print_success.ensures

pub returns-in-Some-ProduceModels : goal.returns-in-Some-ProduceModels
returns-in-Some-ProduceModels c =
    let k = c.args.self.now in
    let value = shape_of c.args.value in
    replies_as _ _ c.set_produce_models.result k c.set_produce_models.new.self
    (ap (by_setting value (state_of k)) (sym c.in-Some-ProduceModels.ensures.set)
    ∙ ap (λ setting. set_in setting value (state_of k)) c.in-Some-ProduceModels.field-0-is)
    c.set_produce_models.ensures

pub returns-in-Some-ProduceAssumptions : goal.returns-in-Some-ProduceAssumptions
returns-in-Some-ProduceAssumptions c =
    let k = c.args.self.now in
    let value = shape_of c.args.value in
    replies_as _ _ c.set_produce_assumptions.result k c.set_produce_assumptions.new.self
    (ap (by_setting value (state_of k)) (sym c.in-Some-ProduceAssumptions.ensures.set)
    ∙ ap (λ setting. set_in setting value (state_of k)) c.in-Some-ProduceAssumptions.field-0-is)
    c.set_produce_assumptions.ensures

pub returns-in-Some-GlobalDeclarations : goal.returns-in-Some-GlobalDeclarations
returns-in-Some-GlobalDeclarations c =
    let k = c.args.self.now in
    let value = shape_of c.args.value in
    replies_as _ _ c.set_global_declarations.result k c.set_global_declarations.new.self
    (ap (by_setting value (state_of k)) (sym c.in-Some-GlobalDeclarations.ensures.set)
    ∙ ap (λ setting. set_in setting value (state_of k)) c.in-Some-GlobalDeclarations.field-0-is)
    c.set_global_declarations.ensures
