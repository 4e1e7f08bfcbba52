use Rattle.std.proofs.Common.{codes, [], if◌then◌else◌, refl, ap, ◌∙◌}
use Rattle.std.proofs.lemmas.Result.{IfOk-weaker}
use Rattle.sb_script.specs.Steps.{line}
use Rattle.sb_script.specs.Texts.{number_of}
use Rattle.sb_script.specs.Replies.{push}
use Rattle.sb_stack.specs.Stacked.{Stacked, state_of}
use Rattle.sb_stack.specs.Taking.{IsAnswered}
use Rattle.sb_stack.proofs.Lefts.{too_many, push_step}
use Rattle.sb_stack.proofs.Replying.{unchanged, unanswered, ended}
use Rattle.sb_stack.proofs.stack.Stack.push.Goals as goal

pub returns-in_default : goal.returns-in_default
returns-in_default c =
    let k = c.args.self.now in
    let n = number_of c.args.count.now in
    unchanged _ c.error_line.result k k refl
    (IfOk-weaker c.error_line.result _ (λ text. IsAnswered (push n (state_of k)) text (state_of k) (state_of k))
    (λ text said. too_many k n text c.in_default.ensures said) c.error_line.ensures)

pub returns-in_err-answer : goal.returns-in_err-answer
returns-in_err-answer c =
    let k = c.args.self.now in unanswered _ c.from_residual.result k k refl c.from_residual.ensures.0

pub returns-in_err-open_levels : goal.returns-in_err-open_levels
returns-in_err-open_levels c =
    let e = c.in_err-open_levels.ensures in
    let k = c.args.self.now in
    ended (push (number_of c.args.count.now) (state_of k)) c.from_residual-in_err-open_levels.result k
    c.open_levels.new.self c.from_residual-in_err-open_levels.ensures.0 e.err e.keeps

pub returns-clause-keeps : goal.returns-clause-keeps
returns-clause-keeps c = c.in_ok-open_levels.ensures.keeps

pub returns-clause-ok : goal.returns-clause-ok
returns-clause-ok c =
    push_step c.args.self.now c.open_levels.new.self (number_of c.args.count.now) c.in-Some.count
    c.in_ok-answer.answer c.in-Some.ensures.0 c.in-Some.ensures.1 c.in_ok-open_levels.ensures.ok
    (c.in_ok-answer.ensures ∙ ap (λ (k : Stacked). if k.print_success then line (codes "success") else [])
    c.self.view_is)
