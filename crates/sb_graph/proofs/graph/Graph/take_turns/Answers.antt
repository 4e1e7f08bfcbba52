use Rattle.std.proofs.Common.{refl, ◌∙◌, subst, arith}
use Rattle.std.proofs.lemmas.Result.{IfOk-from_err}
use Rattle.sb_regex.proofs.CallerLemmas.{at_kept, number_kept, extends_same, extends_more}
use Rattle.sb_graph.specs.Witness.{GoesOn, IsReachedBy}
use Rattle.sb_graph.proofs.Searching.{come_start, come_carried, come_reached}
use Rattle.sb_graph.proofs.graph.Graph.take_turns.Goals as goal

pub loop-bound-init : goal.loop-bound-init
loop-bound-init c = record {
  some = omega arith;
  extends = extends_same c.args.arena.now;
  graph = c.requires.graph;
  marks = refl;
  derivatives_stay = λ n pieces h. h;
  come = come_start c.args.arena.now c.args.root c.args.self.now.dead c.args.queue.now 0 c.args.self.now.expanded
      c.requires.start (omega arith);
}

pub walk_members-requires : goal.walk_members-requires
walk_members-requires c =
    let i = c.loop-bound.invariant in
    record {
      known = number_kept c.args.arena.now c.loop-bound.arena c.args.root i.extends c.requires.known;
      graph = i.graph;
    }

pub returns-in_err-walk_members : goal.returns-in_err-walk_members
returns-in_err-walk_members c =
    let first = c.args.arena.now in
    let i = c.loop-bound.invariant in
    let w = c.in_err-walk_members.ensures in
    let come = come_carried c.loop-bound.arena c.walk_members.new.arena w.extends c.args.root c.loop-bound.self.dead
    c.walk_members.new.self.dead c.loop-bound.queue c.loop-bound.place c.args.self.now.expanded
    c.loop-bound.self.expanded c.walk_members.new.self.expanded w.marks w.expanded i.come in
    let more = extends_more first c.loop-bound.arena c.walk_members.new.arena i.extends w.extends in
    record {
      come = IfOk-from_err c.from_residual.result _ c.from_residual.ensures.0;
      extends = more;
      graph = w.graph;
      marks = w.marks ∙ i.marks;
      derivatives_stay = λ n pieces h. w.derivatives_stay n pieces (i.derivatives_stay n pieces h);
      expands = come_reached first c.walk_members.new.arena more c.args.root c.requires.known c.walk_members.new.self.dead
          c.loop-bound.queue c.loop-bound.place c.args.self.now.expanded c.walk_members.new.self.expanded come;
    }

pub returns-then-branch : goal.returns-then-branch
returns-then-branch c =
    let first = c.args.arena.now in
    let i = c.loop-bound.invariant in
    let w = c.in_ok-walk_members.ensures in
    let come = come_carried c.loop-bound.arena c.walk_members.new.arena w.extends c.args.root c.loop-bound.self.dead
    c.walk_members.new.self.dead c.loop-bound.queue c.loop-bound.place c.args.self.now.expanded
    c.loop-bound.self.expanded c.walk_members.new.self.expanded w.marks w.expanded i.come in
    let more = extends_more first c.loop-bound.arena c.walk_members.new.arena i.extends w.extends in
    record {
      come = come;
      extends = more;
      graph = w.graph;
      marks = w.marks ∙ i.marks;
      derivatives_stay = λ n pieces h. w.derivatives_stay n pieces (i.derivatives_stay n pieces h);
      expands = come_reached first c.walk_members.new.arena more c.args.root c.requires.known c.walk_members.new.self.dead
          c.loop-bound.queue c.loop-bound.place c.args.self.now.expanded c.walk_members.new.self.expanded come;
    }

pub sweep-requires : goal.sweep-requires
sweep-requires c =
    let i = c.loop-bound.invariant in
    let w = c.in_ok-walk_members.ensures in
    let come = come_carried c.loop-bound.arena c.walk_members.new.arena w.extends c.args.root c.loop-bound.self.dead
    c.walk_members.new.self.dead c.loop-bound.queue c.loop-bound.place c.args.self.now.expanded
    c.loop-bound.self.expanded c.walk_members.new.self.expanded w.marks w.expanded i.come in
    record { graph = w.graph; start = come.searched; within = come.within }

pub returns-in_err-place : goal.returns-in_err-place
returns-in_err-place c =
    let first = c.args.arena.now in
    let i = c.loop-bound.invariant in
    let w = c.in_ok-walk_members.ensures in
    let e = c.in_err-place.ensures in
    let x = c.from_residual-in_err-place in
    let come = come_carried c.loop-bound.arena c.walk_members.new.arena w.extends c.args.root c.loop-bound.self.dead
    c.walk_members.new.self.dead c.loop-bound.queue c.loop-bound.place c.args.self.now.expanded
    c.loop-bound.self.expanded c.walk_members.new.self.expanded w.marks w.expanded i.come in
    let more = extends_more first c.loop-bound.arena c.walk_members.new.arena i.extends w.extends in
    record {
      come = IfOk-from_err x.result _ x.ensures.0;
      extends = extends_more first c.walk_members.new.arena c.sweep.new.arena more e.extends;
      graph = e.graph;
      marks = e.marks ∙ w.marks ∙ i.marks;
      derivatives_stay = λ n pieces h.
          e.derivatives_stay n pieces (w.derivatives_stay n pieces (i.derivatives_stay n pieces h));
      expands = subst (λ r. GoesOn (IsReachedBy c.sweep.new.arena r (λ v. Unit {0})) c.args.self.now.expanded
          c.sweep.new.self.expanded) (at_kept first c.walk_members.new.arena c.args.root more c.requires.known)
          (e.expands c.args.self.now.expanded come);
    }

pub returns-then-place-bound : goal.returns-then-place-bound
returns-then-place-bound c =
    let first = c.args.arena.now in
    let i = c.loop-bound.invariant in
    let w = c.in_ok-walk_members.ensures in
    let e = c.in_ok-place.ensures in
    let come = come_carried c.loop-bound.arena c.walk_members.new.arena w.extends c.args.root c.loop-bound.self.dead
    c.walk_members.new.self.dead c.loop-bound.queue c.loop-bound.place c.args.self.now.expanded
    c.loop-bound.self.expanded c.walk_members.new.self.expanded w.marks w.expanded i.come in
    let more = extends_more first c.loop-bound.arena c.walk_members.new.arena i.extends w.extends in
    record {
      come = e.come c.args.self.now.expanded come;
      extends = extends_more first c.walk_members.new.arena c.sweep.new.arena more e.extends;
      graph = e.graph;
      marks = e.marks ∙ w.marks ∙ i.marks;
      derivatives_stay = λ n pieces h.
          e.derivatives_stay n pieces (w.derivatives_stay n pieces (i.derivatives_stay n pieces h));
      expands = subst (λ r. GoesOn (IsReachedBy c.sweep.new.arena r (λ v. Unit {0})) c.args.self.now.expanded
          c.sweep.new.self.expanded) (at_kept first c.walk_members.new.arena c.args.root more c.requires.known)
          (e.expands c.args.self.now.expanded come);
    }

pub loop-bound-preserved : goal.loop-bound-preserved
loop-bound-preserved c =
    let first = c.args.arena.now in
    let i = c.loop-bound.invariant in
    let w = c.in_ok-walk_members.ensures in
    let e = c.in_ok-place.ensures in
    let come = come_carried c.loop-bound.arena c.walk_members.new.arena w.extends c.args.root c.loop-bound.self.dead
    c.walk_members.new.self.dead c.loop-bound.queue c.loop-bound.place c.args.self.now.expanded
    c.loop-bound.self.expanded c.walk_members.new.self.expanded w.marks w.expanded i.come in
    let more = extends_more first c.loop-bound.arena c.walk_members.new.arena i.extends w.extends in
    record {
      some = omega (arith, i.some);
      extends = extends_more first c.walk_members.new.arena c.sweep.new.arena more e.extends;
      graph = e.graph;
      marks = e.marks ∙ w.marks ∙ i.marks;
      derivatives_stay = λ n pieces h.
          e.derivatives_stay n pieces (w.derivatives_stay n pieces (i.derivatives_stay n pieces h));
      come = e.come c.args.self.now.expanded come;
    }

pub returns : goal.returns
returns c =
    let i = c.loop-bound.invariant in
    record {
      come = i.come;
      extends = i.extends;
      graph = i.graph;
      marks = i.marks;
      derivatives_stay = i.derivatives_stay;
      expands = come_reached c.args.arena.now c.loop-bound.arena i.extends c.args.root c.requires.known
          c.loop-bound.self.dead c.loop-bound.queue c.loop-bound.place c.args.self.now.expanded
          c.loop-bound.self.expanded i.come;
    }
