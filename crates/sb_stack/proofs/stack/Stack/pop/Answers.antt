use Rattle.std.proofs.Common.{length, codes, [], if◌then◌else◌, arith, refl, ap, sym, ◌∙◌}
use Rattle.std.proofs.lemmas.List.{length-reverse}
use Rattle.std.proofs.lemmas.Result.{IfOk-weaker}
use Rattle.sb_script.specs.Steps.{line}
use Rattle.sb_script.specs.Texts.{number_of}
use Rattle.sb_script.specs.Replies.{pop}
use Rattle.sb_stack.specs.Stacked.{Stacked, state_of}
use Rattle.sb_stack.specs.Taking.{IsAnswered}
use Rattle.sb_stack.proofs.Lefts.{too_few, pop_step}
use Rattle.sb_stack.proofs.Replying.{unchanged, takes_reply, takes_failed}
use Rattle.sb_stack.proofs.stack.Stack.pop.Goals as goal

pub returns-in_default : goal.returns-in_default
returns-in_default c =
    let k = c.args.self.now in
    let n = number_of c.args.count.now in
    let count = c.len.ensures ∙ c.self.inside.levels.ok.0 ∙ sym (length-reverse c.self.inside.levels.items)
    ∙ ap (λ (k : Stacked). length k.levels) c.self.view_is in
    takes_reply _ (pop n (state_of k)) c.fail.result c.answered.result k k refl c.answered.ensures
    (unchanged _ c.fail.result k k refl
    (IfOk-weaker c.fail.result _ (λ text. IsAnswered (pop n (state_of k)) text (state_of k) (state_of k))
    (λ text said. too_few k n text (omega (arith, c.in_default.ensures, count)) said.0) c.fail.ensures))

pub returns-in_err-answer : goal.returns-in_err-answer
returns-in_err-answer c = takes_failed _ c.from_residual.result c.args.self.now c.from_residual.ensures.0

pub returns-clause-ok : goal.returns-clause-ok
returns-clause-ok c =
    let count = c.len.ensures ∙ c.self.inside.levels.ok.0 ∙ sym (length-reverse c.self.inside.levels.items)
    ∙ ap (λ (k : Stacked). length k.levels) c.self.view_is in
    let left = c.len-left.ensures ∙ c.self-2.inside.levels.ok.0 ∙ sym (length-reverse c.self-2.inside.levels.items)
    ∙ ap (λ (k : Stacked). length k.levels) c.self-2.view_is in
    pop_step c.args.self.now c.leave_levels.new.self (number_of c.args.count.now) c.in-Some.count c.len-left.result
    c.in_ok-answer.answer c.in-Some.ensures.0 (omega (arith, c.in-Some.ensures.1, count)) c.leave_levels.ensures.state
    left
    (c.in_ok-answer.ensures ∙ ap (λ (k : Stacked). if k.print_success then line (codes "success") else [])
    c.self.view_is)
