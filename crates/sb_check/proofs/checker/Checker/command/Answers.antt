use Rattle.std.proofs.Common.{Some, sym, ap, ◌∙◌, arith}
use Rattle.std.proofs.lemmas.Result.{err_from_is_err_and}
use Rattle.sb_script.specs.Replies.{step_of}
use Rattle.sb_rulebook.specs.Accepted.{events_of}
use Rattle.sb_stack.specs.Stacked.{state_of}
use Rattle.sb_stack.specs.Steps.{entry_of}
use Rattle.sb_check.proofs.CheckTurns.{entry_goes, entry_left, entry_said, entry_stops, entry_wants_memory}
use Rattle.sb_check.proofs.Numbers.{out_at}
use Rattle.sb_check.proofs.checker.Checker.command.Goals as goal

pub returns-in_err-enter-clause-err : goal.returns-in_err-enter-clause-err
returns-in_err-enter-clause-err g c =
    let e = err_from_is_err_and c.from_residual.result c.from_residual.ensures.1 in
    let s = state_of c.args.self.now.judge.stack in
    entry_wants_memory c.from_residual.result e.0 c.args.self.now.judge c.args.lines.now
    (g.W.World.outside c.args.world.now) (events_of (step_of (entry_of c.args.entry.now) s) s) e.1 e.2

pub returns-in_err-verdict-in-Waits-clause-err : goal.returns-in_err-verdict-in-Waits-clause-err
returns-in_err-verdict-in-Waits-clause-err g c =
    let e = err_from_is_err_and c.from_residual-in_err-verdict-in-Waits.result
    c.from_residual-in_err-verdict-in-Waits.ensures.1 in
    entry_stops c.from_residual-in_err-verdict-in-Waits.result e.0 _ _ c.enter.new.self _ _ _ _ _ e.1 e.2
    (rw c.in-Waits.is at c.in_ok-enter.ensures.ok).0 (rw c.in-Waits.is at c.in_ok-enter.ensures.kept)
    c.in_err-verdict-in-Waits.ensures.err

pub returns-in-Goes-clause-ok : goal.returns-in-Goes-clause-ok
returns-in-Goes-clause-ok g c =
    entry_goes _ c.enter.new.self _ _ _ (rw c.in-Goes.is at c.in_ok-enter.ensures.ok).0
    (rw c.in-Goes.is at c.in_ok-enter.ensures.kept)

pub returns-in-Left-clause-ok : goal.returns-in-Left-clause-ok
returns-in-Left-clause-ok g c =
    let left = rw c.in-Left.is at c.in_ok-enter.ensures.ok in
    entry_left _ c.enter.new.self _ _ _ left.0 left.1.0 (rw c.in-Left.is at c.in_ok-enter.ensures.kept)

pub returns-in-Left-clause-leads : goal.returns-in-Left-clause-leads
returns-in-Left-clause-leads g c = (rw c.in-Left.is at c.in_ok-enter.ensures.ok).1.1

pub returns-in-Ends-clause-ok : goal.returns-in-Ends-clause-ok
returns-in-Ends-clause-ok g c =
    entry_goes _ c.enter.new.self _ _ _ (rw c.in-Ends.is at c.in_ok-enter.ensures.ok).0
    (rw c.in-Ends.is at c.in_ok-enter.ensures.kept)

pub returns-in_ok-verdict-in-Waits-clause-ok : goal.returns-in_ok-verdict-in-Waits-clause-ok
returns-in_ok-verdict-in-Waits-clause-ok g c =
    entry_said c.in_ok-verdict-in-Waits.field-0 _ c.enter.new.self _ _ _ _ _ _
    (rw c.in-Waits.is at c.in_ok-enter.ensures.ok).0 (rw c.in-Waits.is at c.in_ok-enter.ensures.kept)
    c.in_ok-verdict-in-Waits.ensures.ok

pub returns-in-Goes-clause-leads : goal.returns-in-Goes-clause-leads
returns-in-Goes-clause-leads g c = (rw c.in-Goes.is at c.in_ok-enter.ensures.ok).1

pub returns-in-Ends-clause-leads : goal.returns-in-Ends-clause-leads
returns-in-Ends-clause-leads g c = (rw c.in-Ends.is at c.in_ok-enter.ensures.ok).1

pub returns-in_ok-verdict-in-Waits-clause-leads : goal.returns-in_ok-verdict-in-Waits-clause-leads
returns-in_ok-verdict-in-Waits-clause-leads g c =
    (rw c.in-Waits.is at c.in_ok-enter.ensures.ok).1 ∙ ap (λ s. Some (state_of s)) (sym c.verdict.ensures.stack)

pub returns-in_err-enter-clause-numbers : goal.returns-in_err-enter-clause-numbers
returns-in_err-enter-clause-numbers g c =
    let e = err_from_is_err_and c.from_residual.result c.from_residual.ensures.1 in
    rw (e.1, e.2) tt

pub returns-in_err-verdict-in-Waits-clause-numbers : goal.returns-in_err-verdict-in-Waits-clause-numbers
returns-in_err-verdict-in-Waits-clause-numbers g c =
    let x = c.from_residual-in_err-verdict-in-Waits in
    let e = err_from_is_err_and x.result x.ensures.1 in
    out_at x.result e.0 _ _ _ e.1 e.2 (omega (arith, c.enter.ensures.next)) c.in_err-verdict-in-Waits.ensures.numbers
