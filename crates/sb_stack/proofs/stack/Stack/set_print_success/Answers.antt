use Rattle.std.proofs.Common.{Bool, Option, Some, None, refl, sym, ap, arith}
use Rattle.sb_script.specs.Errors.{bad_option_value}
use Rattle.sb_script.specs.State.{State}
use Rattle.sb_script.specs.Steps.{Step, fails_by, succeeds}
use Rattle.sb_stack.specs.Stacked.{Stacked, state_of}
use Rattle.sb_stack.specs.Taking.{with_print_success}
use Rattle.sb_stack.proofs.Changes.{keeps_parts}
use Rattle.sb_stack.proofs.Replying.{says, unanswered, said_and_done, keeps_view}
use Rattle.sb_stack.proofs.stack.Stack.set_print_success.Goals as goal

-- what becomes of a value, where it is a truth value
abbrev by_truth : State → Option Bool → Step
by_truth s (Some b) = succeeds (with_print_success s b)
by_truth s None = fails_by bad_option_value s

pub returns-in_default : goal.returns-in_default
returns-in_default c =
    let k = c.args.self.now in
    says _ _ c.error_line.result k k refl (ap (by_truth (state_of k)) (sym c.in_default.ensures)) c.error_line.ensures

pub returns-in_err-answer : goal.returns-in_err-answer
returns-in_err-answer c =
    let k = c.args.self.now in unanswered _ c.from_residual.result k k refl c.from_residual.ensures.0

pub returns : goal.returns
returns c =
    let k = c.args.self.now in
    said_and_done _ _ c.in_ok-answer.answer k _ (with_print_success (state_of k) c.in-Some.printed)
    (ap (by_truth (state_of k)) (sym c.in-Some.ensures)) c.in_ok-answer.ensures
    (ap (λ (k : Stacked). with_print_success (state_of k) c.in-Some.printed) c.self.view_is)
    (keeps_view _ k _ c.self.view_is (keeps_parts _ _ refl refl refl (omega arith)))
