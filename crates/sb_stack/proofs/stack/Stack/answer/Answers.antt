use Rattle.std.proofs.Common.{ap, sym, refl, ◌∙◌}
use Rattle.sb_script.specs.Replies.{step_of}
use Rattle.sb_script.specs.Steps.{fails}
use Rattle.sb_stack.specs.Stacked.{state_of}
use Rattle.sb_stack.specs.Steps.{entry_of}
use Rattle.sb_stack.proofs.Replying.{unchanged, takes_reply, takes_as}
use Rattle.sb_stack.proofs.stack.Stack.answer.Goals as goal

pub returns-in-Command : goal.returns-in-Command
returns-in-Command c =
    let k = c.args.self.now in
    takes_as _ _ c.run.result k c.run.new.self (ap (λ e. step_of (entry_of e) (state_of k)) c.in-Command.is) c.run.ensures

pub returns-in-Refused : goal.returns-in-Refused
returns-in-Refused c =
    let k = c.args.self.now in
    let said = fails c.refusal_text.result.now (state_of k) in
    takes_reply _ said c.fail.result c.answered.result k k
    (ap (λ e. step_of (entry_of e) (state_of k)) c.in-Refused.is
    ∙ ap (λ text. fails text (state_of k)) (sym c.refusal_text.ensures))
    c.answered.ensures (unchanged said c.fail.result k k refl c.fail.ensures)
