use Rattle.std.proofs.Common.{Option, Some, None, sym, ap, refl}
use Rattle.sb_script.specs.State.{State}
use Rattle.sb_script.specs.Steps.{Step, fails_by}
use Rattle.sb_script.specs.Errors as error
use Rattle.sb_script.specs.Replies.{Effect}
use Rattle.sb_stack.specs.Stacked.{state_of}
use Rattle.sb_stack.proofs.Replying.{unchanged, takes_reply, takes_as}
use Rattle.sb_stack.proofs.stack.Stack.run.Goals as goal

-- what a command does, where there is one
abbrev by_effect : State → Option Effect → Step
by_effect s (Some effect) = effect s
by_effect s None = fails_by error.malformed_command s

pub returns-in-Some : goal.returns-in-Some
returns-in-Some c =
    let k = c.args.self.now in
    takes_as _ _ c.take.result k c.take.new.self (ap (by_effect (state_of k)) (sym c.in-Some.ensures)) c.take.ensures

pub returns-in-None : goal.returns-in-None
returns-in-None c =
    let k = c.args.self.now in
    takes_reply _ _ c.fail.result c.answered.result k k (ap (by_effect (state_of k)) (sym c.in-None.ensures))
    c.answered.ensures (unchanged (fails_by error.malformed_command (state_of k)) c.fail.result k k refl c.fail.ensures)
