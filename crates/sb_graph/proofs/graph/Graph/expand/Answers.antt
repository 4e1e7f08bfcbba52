use Rattle.std.proofs.Common.{◌≡◌, ◌<◌, length, sym, ap, subst}
use Rattle.std.proofs.lemmas.Option.{get_or_from_slice_get}
use Rattle.std.proofs.lemmas.Result.{IfOk-from_err}
use Rattle.sb_graph.specs.Witness.{GoesOn}
use Rattle.sb_graph.proofs.graph.Graph.expand.Goals as goal

pub at-regex-requires : goal.at-regex-requires
at-regex-requires c = c.requires.place

pub derive-requires : goal.derive-requires
derive-requires c =
    let is = ap (λ e. e.0)
    (get_or_from_slice_get c.args.queue.now c.args.place c.at-regex.result (0, (0, 0)) c.at-regex.ensures) in
    record { graph = c.requires.graph; known = subst (λ n. n < length c.args.arena.now) is c.requires.known }

pub returns-in_err-derive : goal.returns-in_err-derive
returns-in_err-derive c =
    let is = ap (λ e. e.0)
    (get_or_from_slice_get c.args.queue.now c.args.place c.at-regex.result (0, (0, 0)) c.at-regex.ensures) in
    let e = c.in_err-derive.ensures in
    record {
      visited = IfOk-from_err c.from_residual.result _ c.from_residual.ensures.0;
      expands = subst (λ r. GoesOn (λ n. n ≡ r) c.args.self.now.expanded c.derive.new.self.expanded) (sym is) e.expands;
      idle = e.idle;
      extends = e.extends;
      graph = e.graph;
      marks = e.marks;
      derivatives_stay = e.derivatives_stay;
    }

pub returns-clause-expands : goal.returns-clause-expands
returns-clause-expands c =
    let is = ap (λ e. e.0)
    (get_or_from_slice_get c.args.queue.now c.args.place c.at-regex.result (0, (0, 0)) c.at-regex.ensures) in
    subst (λ r. GoesOn (λ n. n ≡ r) c.args.self.now.expanded c.derive.new.self.expanded) (sym is)
    c.in_ok-derive.ensures.expands

pub returns-clause-extends : goal.returns-clause-extends
returns-clause-extends c = c.in_ok-derive.ensures.extends

pub returns-clause-graph : goal.returns-clause-graph
returns-clause-graph c = c.in_ok-derive.ensures.graph
