use Rattle.std.proofs.Common.{◌≤◌, ◌^◌, length, sym, ap, ◌∙◌, arith, subst}
use Rattle.sb_lit.specs.Budgets.{Spending}
use Rattle.sb_trace.specs.Tracking.{Traced, Traces}
use Rattle.sb_trace.proofs.Exits.{told_ok, told_err}
use Rattle.sb_trace.proofs.ExpansionLines.{expansion_traced_at}
use Rattle.sb_trace.proofs.Views.{within_expanded, expanded_after, expanded_set}
use Rattle.sb_trace.proofs.Spent.{spent_same, spent_one}
use Rattle.sb_trace.proofs.Growing.{traces_none}
use Rattle.sb_trace.proofs.trace.Trace.put_expansion.Goals as goal

pub returns-clause-puts : goal.returns-clause-puts
returns-clause-puts g c =
    let s = c.self.inside in
    let u : Traced = record { order = s.order.keys; expanded = s.expanded.items; dead = s.dead.items } in
    let long = c.self.invariant.0 in
    let small : length s.order.keys ≤ 2 ^ 64 =
    omega (arith, long, s.expanded.ok.0, s.expanded.ok.1, s.expanded.small) in
    let no = sym c.is_err.ensures.value ∙ c.if-is_err.false in
    let put = c.in_ok-put_line.ensures in
    λ asked rs memo pieces before known entry are new tracks counts.
    expansion_traced_at c.order_tells_apart.ensures c.test_decides_expansion.ensures asked rs memo c.args.self.now u
    before c.args.number pieces c.args.classes.items c.args.budget.now c.tick.new.self (g.L.Tape.told c.args.tape.now)
    (g.L.Tape.told c.put_line.new.tape) c.self.view_is long small (told_ok c.tick.result _ no c.tick.ensures.room)
    (told_ok c.tick.result _ no c.tick.ensures.ok) put.told c.requires known entry are new tracks counts

pub returns-clause-marks : goal.returns-clause-marks
returns-clause-marks g c =
    let s = c.self.inside in
    let u : Traced = record { order = s.order.keys; expanded = s.expanded.items; dead = s.dead.items } in
    let within = within_expanded c.args.self.now u c.self.view_is c.args.number c.self.invariant.0 c.requires in
    λ n h. expanded_after c.args.self.now u c.self.view_is c.args.number n within h

pub returns-then-is_err-clause-spends : goal.returns-then-is_err-clause-spends
returns-then-is_err-clause-spends g c =
    told_err c.tick.result _ (sym c.is_err.ensures.value ∙ c.if-is_err.true) c.tick.ensures.same

pub returns-then-is_err-clause-limit : goal.returns-then-is_err-clause-limit
returns-then-is_err-clause-limit g c =
    ap (λ (b : Spending). b.limit)
    (told_err c.tick.result _ (sym c.is_err.ensures.value ∙ c.if-is_err.true) c.tick.ensures.same)

pub returns-in_err-put_line-clause-limit : goal.returns-in_err-put_line-clause-limit
returns-in_err-put_line-clause-limit g c =
    ap (λ (b : Spending). b.limit)
    (told_ok c.tick.result _ (sym c.is_err.ensures.value ∙ c.if-is_err.false) c.tick.ensures.ok)

pub returns-clause-limit : goal.returns-clause-limit
returns-clause-limit g c =
    ap (λ (b : Spending). b.limit)
    (told_ok c.tick.result _ (sym c.is_err.ensures.value ∙ c.if-is_err.false) c.tick.ensures.ok)

pub returns-clause-spends : goal.returns-clause-spends
returns-clause-spends g c =
    let no = sym c.is_err.ensures.value ∙ c.if-is_err.false in
    (told_ok c.tick.result _ no c.tick.ensures.room, told_ok c.tick.result _ no c.tick.ensures.ok)

pub returns-clause-only : goal.returns-clause-only
returns-clause-only g c =
    let s = c.self.inside in
    let u : Traced = record { order = s.order.keys; expanded = s.expanded.items; dead = s.dead.items } in
    let within = within_expanded c.args.self.now u c.self.view_is c.args.number c.self.invariant.0 c.requires in
    λ n. expanded_set c.args.self.now u c.self.view_is c.args.number n within

pub returns-then-is_err-clause-steps : goal.returns-then-is_err-clause-steps
returns-then-is_err-clause-steps g c =
    spent_same c.args.budget.now c.tick.new.self
    (told_err c.tick.result _ (sym c.is_err.ensures.value ∙ c.if-is_err.true) c.tick.ensures.same)

pub returns-in_err-put_line-clause-steps : goal.returns-in_err-put_line-clause-steps
returns-in_err-put_line-clause-steps g c =
    spent_one c.args.budget.now c.tick.new.self
    (told_ok c.tick.result _ (sym c.is_err.ensures.value ∙ c.if-is_err.false) c.tick.ensures.ok) c.tick.ensures.within

pub returns-clause-steps : goal.returns-clause-steps
returns-clause-steps g c =
    spent_one c.args.budget.now c.tick.new.self
    (told_ok c.tick.result _ (sym c.is_err.ensures.value ∙ c.if-is_err.false) c.tick.ensures.ok) c.tick.ensures.within

pub index_mut-requires : goal.index_mut-requires
index_mut-requires g c =
    let s = c.self.inside in
    let u : Traced = record { order = s.order.keys; expanded = s.expanded.items; dead = s.dead.items } in
    let l = within_expanded c.args.self.now u c.self.view_is c.args.number c.self.invariant.0 c.requires in
    omega (arith, l, s.expanded.ok.0)

pub returns-then-is_err-clause-puts : goal.returns-then-is_err-clause-puts
returns-then-is_err-clause-puts g c =
    let same = told_err c.tick.result _ (sym c.is_err.ensures.value ∙ c.if-is_err.true) c.tick.ensures.same in
    λ asked rs memo pieces before known entry are new tracks counts.
    subst (λ b. Traces asked before rs memo c.args.self.now b (g.L.Tape.told c.args.tape.now)
    (g.L.Tape.told c.args.tape.now)) (sym same)
    (traces_none asked before rs memo c.args.self.now c.args.budget.now (g.L.Tape.told c.args.tape.now) tracks counts)

pub returns-clause-spent : goal.returns-clause-spent
returns-clause-spent g c = λ spent. absurd (Prim.cc (spent))

pub returns-clause-anew : goal.returns-clause-anew
returns-clause-anew g c = λ already. absurd (Prim.cc (already))

pub returns-then-is_err-clause-anew : goal.returns-then-is_err-clause-anew
returns-then-is_err-clause-anew g c = λ already. absurd (Prim.cc (already))
