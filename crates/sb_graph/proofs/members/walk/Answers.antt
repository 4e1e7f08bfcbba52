use Rattle.std.proofs.Common.{sym, subst, arith}
use Rattle.std.proofs.lemmas.Result.{IfOk-from_err}
use Rattle.sb_regex.proofs.CallerLemmas.{extends_same, extends_more}
use Rattle.sb_graph.specs.Walks.{first_language, IsUnderWay}
use Rattle.sb_graph.proofs.Walking.{numbers_known, under_way_start, under_way_found, under_way_many, under_way_end, under_way_next}
use Rattle.sb_graph.proofs.members.walk.Goals as goal

pub loop-place-init : goal.loop-place-init
loop-place-init c = record {
  extends = extends_same c.args.arena.now;
  faithful = c.requires.faithful;
  kept = λ n pieces h. h;
  under_way = under_way_start c.args.arena.now (first_language c.args.arena.now c.args.queue.now) c.args.queue.now
      c.requires.start;
}

pub first_nullable-requires : goal.first_nullable-requires
first_nullable-requires c =
    numbers_known c.loop-place.arena (first_language c.args.arena.now c.args.queue.now) c.loop-place.queue
    c.loop-place.place c.loop-place.tested c.loop-place.invariant.under_way c.regexes.result.now c.regexes.ensures

pub returns-in-Some : goal.returns-in-Some
returns-in-Some c =
    let i = c.loop-place.invariant in
    record {
      stop = under_way_found c.loop-place.arena (first_language c.args.arena.now c.args.queue.now) c.loop-place.queue
          c.loop-place.place c.loop-place.tested i.under_way c.regexes.result.now c.regexes.ensures c.in-Some.found
          c.in-Some.ensures;
      extends = i.extends;
      faithful = i.faithful;
      kept = i.kept;
    }

pub returns-then-place-bound : goal.returns-then-place-bound
returns-then-place-bound c =
    let i = c.loop-place.invariant in
    record {
      stop = under_way_many c.loop-place.arena (first_language c.args.arena.now c.args.queue.now) c.loop-place.queue
          c.loop-place.place c.loop-place.tested i.under_way c.args.bound
          (omega (arith, c.if-place-bound.true, c.loop-place-test.true, c.len.ensures));
      extends = i.extends;
      faithful = i.faithful;
      kept = i.kept;
    }

pub take_turn-requires : goal.take_turn-requires
take_turn-requires c =
    let i = c.loop-place.invariant in
    record {
      within = omega (arith, c.loop-place-test.true, c.len.ensures);
      faithful = i.faithful;
      known = i.under_way.searched.reached.known;
    }

pub returns-in_err-place : goal.returns-in_err-place
returns-in_err-place c =
    let i = c.loop-place.invariant in
    let e = c.in_err-place.ensures in
    record {
      stop = IfOk-from_err c.from_residual.result _ c.from_residual.ensures.0;
      extends = extends_more c.args.arena.now c.loop-place.arena c.take_turn.new.arena i.extends e.extends;
      faithful = e.faithful;
      kept = λ n pieces h. e.kept n pieces (i.kept n pieces h);
    }

pub loop-place-preserved : goal.loop-place-preserved
loop-place-preserved c =
    let i = c.loop-place.invariant in
    let e = c.in_ok-place.ensures in
    let L = first_language c.args.arena.now c.args.queue.now in
    record {
      extends = extends_more c.args.arena.now c.loop-place.arena c.take_turn.new.arena i.extends e.extends;
      faithful = e.faithful;
      kept = λ n pieces h. e.kept n pieces (i.kept n pieces h);
      under_way = subst (IsUnderWay c.take_turn.new.arena L c.take_turn.new.queue c.in_ok-place.place)
          (sym c.len-tested.ensures)
          (under_way_next c.loop-place.arena L c.loop-place.queue c.loop-place.place c.loop-place.tested i.under_way
          c.regexes.result.now c.regexes.ensures c.take_turn.new.arena c.take_turn.new.queue c.in_ok-place.place
          e.extends c.in_default.ensures e.next.1 (e.turned L i.under_way.searched));
    }

pub returns : goal.returns
returns c =
    let i = c.loop-place.invariant in
    record {
      stop = under_way_end c.loop-place.arena (first_language c.args.arena.now c.args.queue.now) c.loop-place.queue
          c.loop-place.place c.loop-place.tested i.under_way (omega (arith, c.loop-place-test.false, c.len.ensures));
      extends = i.extends;
      faithful = i.faithful;
      kept = i.kept;
    }
