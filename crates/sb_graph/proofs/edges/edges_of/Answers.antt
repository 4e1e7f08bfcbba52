use Rattle.std.proofs.Common.{length, subst, sym}
use Rattle.std.proofs.lemmas.Result.{IfOk-from_err}
use Rattle.sb_graph.specs.Edges.{AreGathered}
use Rattle.sb_graph.proofs.Derived.{edges_rising}
use Rattle.sb_graph.proofs.Fronts.{edges_are}
use Rattle.sb_regex.specs.Numbered.{AllNumbers}
use Rattle.sb_regex.proofs.CallerLemmas.{extends_same}
use Rattle.sb_graph.proofs.edges.edges_of.Goals as goal

pub returns-clause-edges : goal.returns-clause-edges
returns-clause-edges c =
    let new = c.gather.new.arena in
    let all = c.in_ok-edges.edges.items in
    edges_are c.derivative_has_rests.ensures c.mkalt_keeps_language.ensures c.args.arena.now new
    c.in_ok-edges.ensures.extends c.args.states.now c.in_ok-starts.starts.keys c.requires.known c.in_ok-starts.ensures
    all c.sort_unstable.new.self.items
    (subst (λ ns. AreGathered new ns (length ns) all) c.as_slice.ensures.keys c.in_ok-edges.ensures.gathered)
    c.sort_unstable.ensures.permutation

pub returns-clause-rising : goal.returns-clause-rising
returns-clause-rising c = edges_rising c.sort_unstable.new.self.items c.sort_unstable.ensures.sorted

pub gather-requires : goal.gather-requires
gather-requires c =
    record {
      known = subst (AllNumbers c.args.arena.now) (sym c.as_slice.ensures.keys) c.in_ok-starts.ensures.known;
      faithful = c.requires.faithful;
    }

pub returns-clause-extends : goal.returns-clause-extends
returns-clause-extends c = c.in_ok-edges.ensures.extends

pub returns-clause-faithful : goal.returns-clause-faithful
returns-clause-faithful c = c.in_ok-edges.ensures.faithful

pub returns-clause-kept : goal.returns-clause-kept
returns-clause-kept c = c.in_ok-edges.ensures.kept

pub returns-in_err-edges : goal.returns-in_err-edges
returns-in_err-edges c =
    let x = c.from_residual-in_err-edges in
    record {
      edges = IfOk-from_err x.result _ x.ensures.0;
      rising = IfOk-from_err x.result _ x.ensures.0;
      extends = c.gather.ensures.extends;
      faithful = c.gather.ensures.faithful;
      kept = c.gather.ensures.kept;
    }

pub returns-in_err-starts : goal.returns-in_err-starts
returns-in_err-starts c =
    let x = c.from_residual in
    record {
      edges = IfOk-from_err x.result _ x.ensures.0;
      rising = IfOk-from_err x.result _ x.ensures.0;
      extends = extends_same c.args.arena.now;
      faithful = c.requires.faithful;
      kept = λ n pieces h. h;
    }
