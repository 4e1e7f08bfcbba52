use Rattle.std.proofs.Common.{◌≤◌, ◌^◌, nat_eq, length, map, sym, ap, ◌∙◌, arith}
use Rattle.std.specs.List.{list_any}
use Rattle.sb_graph.specs.Findings.{is_marked}
use Rattle.sb_trace.specs.Tracking.{Traced, number_in}
use Rattle.sb_trace.proofs.DeadLines.{dead_traced_at, members_dead, or_first}
use Rattle.sb_trace.proofs.trace.Trace.put_dead.Goals as goal

pub invariant_of-self : goal.invariant_of-self
invariant_of-self g c =
    let inv = c.self.invariant in
    (inv.0, omega (arith, inv.1, c.mark.ensures.long), inv.2, λ n l. c.mark.ensures.stay n l ∙ inv.3 n l)

pub returns-clause-puts : goal.returns-clause-puts
returns-clause-puts g c =
    let s = c.self.inside in
    let u : Traced = record { order = s.order.keys; expanded = s.expanded.items; dead = s.dead.items } in
    let long = c.self.invariant.0 in
    let small : length s.order.keys ≤ 2 ^ 64 =
    omega (arith, long, s.expanded.ok.0, s.expanded.ok.1, s.expanded.small) in
    let numbers = c.in_ok-numbers.numbers.items in
    let h = ap (map (number_in s.order.keys)) (sym c.as_slice-regexes.ensures.keys) ∙ c.in_ok-numbers.ensures in
    let marked = c.mark.ensures.marks numbers c.in_ok-numbers.ensures in
    let put = c.in_ok-put_line.ensures in
    λ asked rs memo marks before barren all closed tracks.
    dead_traced_at asked rs memo c.args.self.now u before marks c.mark.new.dead.items c.args.members.now.keys numbers
    (g.L.Tape.told c.args.tape.now) (g.L.Tape.told c.put_line.new.tape) c.self.view_is small
    c.as_slice-regexes.ensures.unique h marked put.told barren all closed tracks

pub returns-clause-dead : goal.returns-clause-dead
returns-clause-dead g c =
    let s = c.self.inside in
    let t : Traced = record { order = s.order.keys; expanded = s.expanded.items; dead = c.mark.new.dead.items } in
    let numbers = c.in_ok-numbers.numbers.items in
    let h = ap (map (number_in s.order.keys)) (sym c.as_slice-regexes.ensures.keys) ∙ c.in_ok-numbers.ensures in
    let marked = c.mark.ensures.marks numbers c.in_ok-numbers.ensures in
    members_dead t c.args.members.now.keys numbers h
    (λ n there. marked n ∙ or_first (list_any (nat_eq n) numbers) (is_marked s.dead.items n) there)
