use Rattle.std.proofs.Common.{Bool, List, Option, Some, None, option_map, if◌then◌else◌, refl, sym, ap, ◌∙◌}
use Rattle.std.specs.declared.vec.Vec.{Vec}
use Rattle.std.specs.declared.alloc.Global.{Global}
use Rattle.sb_script.specs.Errors as error
use Rattle.sb_script.specs.State.{State, Assumption}
use Rattle.sb_script.specs.Steps.{Step, checks, fails_by}
use Rattle.sb_stack.specs.declared.assuming.Assumed.{Assumed}
use Rattle.sb_stack.specs.Assumptions.{all_literals}
use Rattle.sb_stack.specs.Stacked.{state_of, live_constants}
use Rattle.sb_stack.proofs.AssumedFacts.{literals_live}
use Rattle.sb_stack.proofs.Replying.{unchanged, takes_reply, takes_failed, takes_check}
use Rattle.sb_stack.proofs.stack.Stack.assume_known.Goals as goal

-- what is answered, by whether a constant has another sort, and by the assumptions where there is nothing else
abbrev by_literals : State → Option (List Assumption) → Step
by_literals s o = elim o [ Some all ↦ checks all | None ↦ fails_by error.not_a_literal s ]

abbrev by_sorts : List Assumed → State → Bool → Step
by_sorts items s wrong = if wrong then fails_by error.wrong_sort s else by_literals s (all_literals items)

abbrev items_of : Option (Vec Assumption Global) → Option (List Assumption)
items_of found = option_map (λ (all : Vec Assumption Global). all.items) found

pub returns-then-some_wrong_sort : goal.returns-then-some_wrong_sort
returns-then-some_wrong_sort c =
    let k = c.args.self.now in
    let s = state_of k in
    let said = fails_by error.wrong_sort s in
    takes_reply _ said c.fail.result c.answered.result k k
    (ap (by_sorts c.args.items.now s) (sym c.some_wrong_sort.ensures ∙ c.if-some_wrong_sort.true)) c.answered.ensures
    (unchanged said c.fail.result k k refl c.fail.ensures)

pub returns-in_err-found : goal.returns-in_err-found
returns-in_err-found c = takes_failed _ c.from_residual.result c.args.self.now c.from_residual.ensures.0

pub check_under-requires : goal.check_under-requires
check_under-requires c =
    literals_live (live_constants c.args.self.now) c.args.items.now c.in-Some.assumptions.items c.requires
    (sym (ap items_of (sym c.in-Some.is) ∙ c.in_ok-found.ensures))

pub returns-in-Some : goal.returns-in-Some
returns-in-Some c =
    let k = c.args.self.now in
    let s = state_of k in
    let items = c.args.items.now in
    takes_check _ c.in-Some.assumptions.items c.check_under.result k c.check_under.new.self
    (ap (by_sorts items s) (sym c.some_wrong_sort.ensures ∙ c.if-some_wrong_sort.false)
    ∙ ap (by_literals s) (sym (ap items_of (sym c.in-Some.is) ∙ c.in_ok-found.ensures)))
    c.check_under.ensures.asked c.check_under.ensures.given

pub returns-in-None : goal.returns-in-None
returns-in-None c =
    let k = c.args.self.now in
    let s = state_of k in
    let items = c.args.items.now in
    let said = fails_by error.not_a_literal s in
    takes_reply _ said c.fail-in-None.result c.answered-in-None.result k k
    (ap (by_sorts items s) (sym c.some_wrong_sort.ensures ∙ c.if-some_wrong_sort.false)
    ∙ ap (by_literals s) (sym (ap items_of (sym c.in-None.is) ∙ c.in_ok-found.ensures)))
    c.answered-in-None.ensures (unchanged said c.fail-in-None.result k k refl c.fail-in-None.ensures)
