use Rattle.std.proofs.Common.{List, Option, Some, None, refl, sym, ap}
use Rattle.sb_script.specs.Errors.{unknown_symbol}
use Rattle.sb_script.specs.Names.{Name}
use Rattle.sb_script.specs.State.{State}
use Rattle.sb_script.specs.Steps.{Step, fails_by}
use Rattle.sb_stack.specs.declared.assuming.Assumed.{Assumed}
use Rattle.sb_stack.specs.Assumptions.{assumes_known}
use Rattle.sb_stack.specs.Stacked.{state_of}
use Rattle.sb_stack.proofs.Replying.{unchanged, takes_reply, takes_as}
use Rattle.sb_stack.proofs.stack.Stack.assume.Goals as goal

-- what is answered, by the first name that stands for nothing
abbrev by_unknown : List Assumed → State → Option Name → Step
by_unknown items s (Some name) = fails_by (unknown_symbol name) s
by_unknown items s None = assumes_known items s

pub returns-in-Some : goal.returns-in-Some
returns-in-Some c =
    let k = c.args.self.now in
    let s = state_of k in
    let said = fails_by (unknown_symbol c.in-Some.name.now) s in
    takes_reply _ said c.fail_with_name.result c.answered.result k k
    (ap (by_unknown c.args.items.now s) (sym c.in-Some.ensures)) c.answered.ensures
    (unchanged said c.fail_with_name.result k k refl c.fail_with_name.ensures)

pub returns-in-None : goal.returns-in-None
returns-in-None c =
    let k = c.args.self.now in
    takes_as _ _ c.assume_known.result k c.assume_known.new.self
    (ap (by_unknown c.args.items.now (state_of k)) (sym c.in-None.ensures)) c.assume_known.ensures
