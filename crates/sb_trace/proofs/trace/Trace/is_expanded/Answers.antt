use Rattle.std.proofs.Common.{◌≡◌, ◌<◌, false, length, subst, sym, ◌∙◌, arith}
use Rattle.sb_trace.specs.Tracking.{Traced, is_expanded_in}
use Rattle.sb_trace.proofs.Numbering.{marked_by_number, unmarked_without_number}
use Rattle.sb_trace.proofs.trace.Trace.is_expanded.Goals as goal

pub returns-in-Some : goal.returns-in-Some
returns-in-Some c =
    let s = c.self.inside in
    let t : Traced = record { order = s.order.keys; expanded = s.expanded.items; dead = s.dead.items } in
    let h = c.in-Some.ensures in
    let long = c.self.invariant.0 in
    let within : c.in-Some.number < length s.expanded.items = omega (arith, h.within, long) in
    subst (λ (u : Traced). c.index.result.now ≡ is_expanded_in u c.args.regex) c.self.view_is
    (marked_by_number s.order.keys s.expanded.items c.args.regex c.in-Some.number c.index.result.now h.index
    c.index.ensures within)

pub returns-in-None : goal.returns-in-None
returns-in-None c =
    let s = c.self.inside in
    subst (λ (u : Traced). false ≡ is_expanded_in u c.args.regex) c.self.view_is
    (unmarked_without_number s.order.keys s.expanded.items c.args.regex
    (sym c.get_index_of.ensures.index ∙ c.in-None.is))
