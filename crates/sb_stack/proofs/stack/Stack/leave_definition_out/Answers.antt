use Rattle.std.proofs.Common.{option_copied, ap, refl, ◌∙◌}
use Rattle.sb_script.specs.Errors.{already_declared}
use Rattle.sb_script.specs.State.{marked}
use Rattle.sb_script.specs.Steps.{fails_by, is_unsupported}
use Rattle.sb_script.specs.Replies.{unless_error}
use Rattle.sb_stack.specs.Defining.{name_error}
use Rattle.sb_stack.specs.Stacked.{state_of}
use Rattle.sb_stack.proofs.Changes.{same_step}
use Rattle.sb_stack.proofs.Definitions.{marks_free}
use Rattle.sb_stack.proofs.Replying.{unchanged, replies_as}
use Rattle.sb_stack.proofs.stack.Stack.leave_definition_out.Goals as goal

pub returns-in-Some : goal.returns-in-Some
returns-in-Some c =
    let k = c.args.self.now in
    let s = state_of k in
    unchanged _ c.fail_with_name.result k k refl
    (same_step c.fail_with_name.result _ (fails_by (already_declared c.in-Some.refused.now) s) s c.fail_with_name.ensures
    (ap (λ o. unless_error (name_error (option_copied o)) (is_unsupported (marked c.args.name.now s)) s) c.in-Some.is))

pub returns-in-None : goal.returns-in-None
returns-in-None c =
    let k = c.args.self.now in
    let s = state_of k in
    let name = c.args.name.now in
    replies_as _ _ c.declare_function.result k c.declare_function.new.self
    (ap (λ o. unless_error (name_error (option_copied o)) (is_unsupported (marked name s)) s) c.in-None.is
    ∙ marks_free name s (c.requires (ap option_copied c.in-None.is)))
    c.declare_function.ensures
