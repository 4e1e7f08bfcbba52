use Rattle.std.proofs.Common.{◌+◌, refl, sym, subst, ◌∙◌, arith}
use Rattle.std.proofs.lemmas.Result.{IfOk-from_err}
use Rattle.sb_regex.proofs.CallerLemmas.{extends_same, extends_more, names_below}
use Rattle.sb_graph.specs.Search.{IsUnderWay}
use Rattle.sb_graph.proofs.Carrying.{searched_carried}
use Rattle.sb_graph.proofs.Expanding.{idle_more, taken_next, each_reached}
use Rattle.sb_graph.proofs.Searching.{come_start, root_known, under_way_start, under_way_known, under_way_found, under_way_end, under_way_next}
use Rattle.sb_graph.proofs.graph.Graph.search.Goals as goal

pub loop-place-init : goal.loop-place-init
loop-place-init c = record {
  extends = extends_same c.args.arena.now;
  graph = c.requires.graph;
  marks = refl;
  derivatives_stay = λ n pieces h. h;
  idle = λ same. refl;
  under_way = λ before h.
      under_way_start c.args.arena.now c.args.root c.args.self.now.dead c.args.queue.now c.args.from before
      c.args.self.now.expanded h;
}

pub first_nullable-requires : goal.first_nullable-requires
first_nullable-requires c =
    let u = c.loop-place.invariant.under_way c.args.self.now.expanded
    (come_start c.args.arena.now c.args.root c.args.self.now.dead c.args.queue.now c.args.from c.args.self.now.expanded
    c.requires.start c.requires.within) in
    under_way_known c.loop-place.arena c.args.root c.loop-place.self.dead c.loop-place.queue c.loop-place.place
    c.loop-place.tested c.args.self.now.expanded c.loop-place.self.expanded u c.regexes.result.now c.regexes.ensures

pub returns-in-Some : goal.returns-in-Some
returns-in-Some c =
    let i = c.loop-place.invariant in
    record {
      end = λ before h.
          under_way_found c.loop-place.arena c.args.root c.loop-place.self.dead c.loop-place.queue c.loop-place.place
          c.loop-place.tested before c.loop-place.self.expanded (c.loop-place.invariant.under_way before h)
          c.regexes.result.now c.regexes.ensures c.in-Some.found c.in-Some.ensures;
      expands = λ before h.
          let u = i.under_way before h in
          each_reached c.args.arena.now c.loop-place.arena i.extends c.args.root
          (root_known c.args.arena.now c.args.root c.args.self.now.dead c.args.queue.now c.args.from c.requires.start)
          c.loop-place.self.dead c.loop-place.queue c.loop-place.place u.searched c.loop-place.place before
          c.loop-place.self.expanded u.taken;
      idle = i.idle;
      extends = i.extends;
      graph = i.graph;
      marks = i.marks;
      derivatives_stay = i.derivatives_stay;
    }

pub expand-requires : goal.expand-requires
expand-requires c =
    let i = c.loop-place.invariant in
    let u = c.loop-place.invariant.under_way c.args.self.now.expanded
    (come_start c.args.arena.now c.args.root c.args.self.now.dead c.args.queue.now c.args.from c.args.self.now.expanded
    c.requires.start c.requires.within) in
    record {
      graph = i.graph;
      place = omega (arith, c.len.ensures, c.loop-place-test.true);
      known = names_below c.loop-place.arena _ _ (u.searched.reached.along c.loop-place.place
          (omega (arith, c.len.ensures, c.loop-place-test.true)));
    }

pub returns-in_err-expand : goal.returns-in_err-expand
returns-in_err-expand c =
    let i = c.loop-place.invariant in
    let e = c.in_err-expand.ensures in
    record {
      end = IfOk-from_err c.from_residual.result _ c.from_residual.ensures.0;
      expands = λ before h.
          let u = i.under_way before h in
          let queue = c.loop-place.queue in
          let place = c.loop-place.place in
          let taken = taken_next queue queue place before c.loop-place.self.expanded c.expand.new.self.expanded
          (omega (arith, c.len.ensures, c.loop-place-test.true)) (λ k h. (h, refl)) u.taken e.expands in
          each_reached c.args.arena.now c.expand.new.arena (extends_more _ _ _ i.extends e.extends) c.args.root
          (root_known c.args.arena.now c.args.root c.args.self.now.dead c.args.queue.now c.args.from c.requires.start)
          c.loop-place.self.dead queue place
          (searched_carried c.loop-place.arena c.expand.new.arena e.extends c.args.root c.loop-place.self.dead queue
          place u.searched) (place + 1) before c.expand.new.self.expanded taken;
      idle =
          let u = i.under_way c.args.self.now.expanded
          (come_start c.args.arena.now c.args.root c.args.self.now.dead c.args.queue.now c.args.from
          c.args.self.now.expanded c.requires.start c.requires.within) in
          idle_more _ _ _ _ _ _ _ _ u.taken e.expands i.idle e.idle;
      extends = extends_more _ _ _ i.extends e.extends;
      graph = e.graph;
      marks = e.marks ∙ i.marks;
      derivatives_stay = λ n pieces h. e.derivatives_stay n pieces (i.derivatives_stay n pieces h);
    }

pub loop-place-preserved : goal.loop-place-preserved
loop-place-preserved c =
    let i = c.loop-place.invariant in
    let e = c.in_ok-expand.ensures in
    let u = i.under_way c.args.self.now.expanded
    (come_start c.args.arena.now c.args.root c.args.self.now.dead c.args.queue.now c.args.from c.args.self.now.expanded
    c.requires.start c.requires.within) in
    record {
      extends = extends_more _ _ _ i.extends e.extends;
      graph = e.graph;
      marks = e.marks ∙ i.marks;
      derivatives_stay = λ n pieces h. e.derivatives_stay n pieces (i.derivatives_stay n pieces h);
      idle = idle_more _ _ _ _ _ _ _ _ u.taken e.expands i.idle e.idle;
      under_way = λ before h.
          subst (λ tested. IsUnderWay c.expand.new.arena c.args.root c.expand.new.self.dead c.expand.new.queue
          (c.loop-place.place + 1) tested before c.expand.new.self.expanded) (sym c.len-tested.ensures)
          (under_way_next c.loop-place.arena c.args.root c.loop-place.self.dead c.loop-place.queue c.loop-place.place
          c.loop-place.tested before c.loop-place.self.expanded (i.under_way before h) c.regexes.result.now
          c.regexes.ensures c.expand.new.arena c.expand.new.self.dead c.expand.new.queue c.expand.new.self.expanded
          e.extends (omega (arith, c.len.ensures, c.loop-place-test.true)) c.in_default.ensures e.visited e.marks
          e.expands);
    }

pub returns : goal.returns
returns c =
    let i = c.loop-place.invariant in
    record {
      end = λ before h.
          under_way_end c.loop-place.arena c.args.root c.loop-place.self.dead c.loop-place.queue c.loop-place.place
          c.loop-place.tested before c.loop-place.self.expanded (c.loop-place.invariant.under_way before h)
          (omega (arith, c.len.ensures, c.loop-place-test.false));
      expands = λ before h.
          let u = i.under_way before h in
          each_reached c.args.arena.now c.loop-place.arena i.extends c.args.root
          (root_known c.args.arena.now c.args.root c.args.self.now.dead c.args.queue.now c.args.from c.requires.start)
          c.loop-place.self.dead c.loop-place.queue c.loop-place.place u.searched c.loop-place.place before
          c.loop-place.self.expanded u.taken;
      idle = i.idle;
      extends = i.extends;
      graph = i.graph;
      marks = i.marks;
      derivatives_stay = i.derivatives_stay;
    }
