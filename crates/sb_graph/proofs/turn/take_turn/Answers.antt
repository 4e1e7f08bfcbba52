use Rattle.std.proofs.Common.{◌<◌, ◌-◌, length, take, drop, map, refl, sym, subst}
use Rattle.std.proofs.lemmas.Result.{IfOk-from_err}
use Rattle.std.proofs.lemmas.List.Elements.{All-take, All-drop, All-map, All-weaker}
use Rattle.sb_deriv.specs.Pieces.{targets_of}
use Rattle.sb_regex.specs.Numbered.{AllNumbers}
use Rattle.sb_regex.proofs.CallerLemmas.{extends_more, numbers_kept}
use Rattle.sb_members.specs.Members.{in_some}
use Rattle.sb_graph.specs.Edges.{AreEdges, IsEdgeFrom, Puts}
use Rattle.sb_graph.proofs.WalkCarrying.{searched_carried}
use Rattle.sb_graph.proofs.Fronts.{lead_kept}
use Rattle.sb_graph.proofs.WalkSteps.{numbers_all, run_long}
use Rattle.sb_graph.proofs.Runs.{turn_done}
use Rattle.sb_graph.proofs.turn.take_turn.Goals as goal

pub run_end-end-requires : goal.run_end-end-requires
run_end-end-requires c = c.requires.within

pub edges_of-requires : goal.edges_of-requires
edges_of-requires c =
    let rs = c.args.arena.now in
    let place = c.args.place in
    let all = numbers_all rs c.args.queue.now c.regexes.result.now c.regexes.ensures c.requires.known in
    record {
      known = All-take (λ n. n < length rs) (c.run_end-end.result - place) (drop place c.regexes.result.now)
          (All-drop (λ n. n < length rs) place c.regexes.result.now all);
      faithful = c.requires.faithful;
    }

pub returns-in_err-edges : goal.returns-in_err-edges
returns-in_err-edges c =
    let x = c.from_residual in
    let e = c.in_err-edges.ensures in
    record {
      next = IfOk-from_err x.result _ x.ensures.0;
      turned = IfOk-from_err x.result _ x.ensures.0;
      extends = e.extends;
      faithful = e.faithful;
      kept = e.kept;
    }

pub put_edges-requires : goal.put_edges-requires
put_edges-requires c =
    let rs = c.edges_of.new.arena in
    let edges = c.in_ok-edges.edges.items in
    let lead = c.in_ok-edges.ensures.edges in
    subst (λ xs. AllNumbers rs (targets_of xs)) (sym c.deref.ensures.value)
    (All-map (λ t. t < length rs) (λ e. e.1) edges
    (All-weaker (IsEdgeFrom rs _) (λ e. e.1 < length rs) (λ e f. f.known) edges lead.sound))

pub returns-in_err-put_edges : goal.returns-in_err-put_edges
returns-in_err-put_edges c =
    let x = c.from_residual-in_err-put_edges in
    let d = c.in_ok-edges.ensures in
    let more = c.in_err-put_edges.ensures.extends in
    record {
      next = IfOk-from_err x.result _ x.ensures.0;
      turned = IfOk-from_err x.result _ x.ensures.0;
      extends = extends_more c.args.arena.now c.edges_of.new.arena c.put_edges.new.arena d.extends more;
      faithful = c.faithful_stays.ensures c.edges_of.new.arena c.put_edges.new.arena c.edges_of.new.deriver more
          d.faithful;
      kept = d.kept;
    }

pub returns-clause-next : goal.returns-clause-next
returns-clause-next c = (c.run_end-end.ensures.later, c.run_end-end.ensures.within)

pub returns-clause-turned : goal.returns-clause-turned
returns-clause-turned c = λ L s.
    let derived = c.edges_of.new.arena in
    let rs = c.put_edges.new.arena in
    let es = c.args.queue.now in
    let place = c.args.place in
    let end = c.run_end-end.result in
    let run = c.run_end-end.ensures in
    let ns = take (end - place) (drop place (map (λ e. e.0) es)) in
    let d = c.in_ok-edges.ensures in
    let edges = c.in_ok-edges.edges.items in
    let lead = subst (λ xs. AreEdges derived (in_some derived (take (end - place) (drop place xs))) edges)
    c.regexes.ensures d.edges in
    let first = c.args.arena.now in
    let all = numbers_all first es (map (λ e. e.0) es) refl c.requires.known in
    let known = All-take (λ n. n < length first) (end - place) (drop place (map (λ e. e.0) es))
    (All-drop (λ n. n < length first) place (map (λ e. e.0) es) all) in
    let puts = subst (λ xs. Puts rs place xs es c.put_edges.new.queue) c.deref.ensures.value
    c.in_ok-put_edges.ensures.puts in
    let later = c.in_ok-put_edges.ensures.extends in
    turn_done rs L es place end
    (searched_carried c.args.arena.now rs (extends_more c.args.arena.now derived rs d.extends later) L es place s)
    run ns refl (run_long es place end run.later run.within) edges
    (lead_kept derived rs later ns
    (numbers_kept first derived ns d.extends known) edges lead)
    d.rising c.put_edges.new.queue puts

pub returns-clause-extends : goal.returns-clause-extends
returns-clause-extends c =
    extends_more c.args.arena.now c.edges_of.new.arena c.put_edges.new.arena c.in_ok-edges.ensures.extends
    c.in_ok-put_edges.ensures.extends

pub returns-clause-faithful : goal.returns-clause-faithful
returns-clause-faithful c =
    c.faithful_stays.ensures c.edges_of.new.arena c.put_edges.new.arena c.edges_of.new.deriver
    c.in_ok-put_edges.ensures.extends c.in_ok-edges.ensures.faithful

pub returns-clause-kept : goal.returns-clause-kept
returns-clause-kept c = c.in_ok-edges.ensures.kept
