use Rattle.std.proofs.Common.{Bool, true, reverse, if◌then◌else◌, refl, sym, ap, ap₂, ◌∙◌, arith}
use Rattle.sb_script.specs.Errors.{logic_already_set}
use Rattle.sb_script.specs.Options.{is_logic}
use Rattle.sb_script.specs.State.{State}
use Rattle.sb_script.specs.Steps.{Step, fails_by, succeeds, is_unsupported, success}
use Rattle.sb_stack.specs.Stacked.{Stacked, state_of}
use Rattle.sb_stack.proofs.Changes.{kept_begun, keeps_parts}
use Rattle.sb_stack.proofs.Replying.{says, unanswered, said_and_done, keeps_view}
use Rattle.sb_stack.proofs.stack.Stack.set_logic.Goals as goal

abbrev in_logic : State → State
in_logic s = record s { logic_set = true; begun = true }

-- what becomes of a logic, where one is set, and where it is one of those that scripts may be in
abbrev by_tests : State → Bool → Bool → Step
by_tests s already known =
    if already then fails_by logic_already_set s else if known then succeeds (in_logic s) else is_unsupported s

pub returns-then-self : goal.returns-then-self
returns-then-self c =
    let k = c.args.self.now in
    says _ _ c.error_line.result k k refl
    (ap (λ b. by_tests (state_of k) b (is_logic c.args.name.now))
    (ap (λ (k : Stacked). k.logic_set) (sym c.self.view_is) ∙ c.if-self.true)) c.error_line.ensures

pub returns-then-not-is_logic : goal.returns-then-not-is_logic
returns-then-not-is_logic c =
    let k = c.args.self.now in
    says _ _ c.unsupported_line.result k k refl
    (ap₂ (by_tests (state_of k)) (ap (λ (k : Stacked). k.logic_set) (sym c.self.view_is) ∙ c.if-self.false)
    (sym c.is_logic.ensures ∙ c.if-not-is_logic.true)) c.unsupported_line.ensures

pub returns-in_err-answer : goal.returns-in_err-answer
returns-in_err-answer c =
    let k = c.args.self.now in unanswered _ c.from_residual.result k k refl c.from_residual.ensures.0

pub invariant_of-self : goal.invariant_of-self
invariant_of-self c = record {
  kept = kept_begun c.self.inside.begun c.self.inside.scope c.self.inside.table c.self.inside.assertions.items
      (reverse c.self.inside.levels.items) c.self.invariant.kept;
  assumed = c.self.invariant.assumed;
}

pub returns : goal.returns
returns c =
    let k = c.args.self.now in
    said_and_done _ _ c.in_ok-answer.answer k _ (in_logic (state_of k))
    (ap₂ (by_tests (state_of k)) (ap (λ (k : Stacked). k.logic_set) (sym c.self.view_is) ∙ c.if-self.false)
    (sym c.is_logic.ensures ∙ c.if-not-is_logic.false))
    (c.in_ok-answer.ensures ∙ ap (λ (k : Stacked). success (state_of k)) c.self.view_is)
    (ap (λ (k : Stacked). in_logic (state_of k)) c.self.view_is)
    (keeps_view _ k _ c.self.view_is (keeps_parts _ _ refl refl refl (omega arith)))
