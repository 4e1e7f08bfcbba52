use Rattle.std.proofs.Common.{refl, ◌∙◌, subst, ℕ}
use Rattle.std.proofs.lemmas.Result.{IfOk-from_err, err_from_is_err_and}
use Rattle.sb_trace.proofs.Puts.{traces_none, traces_both, stays_both}
use Rattle.sb_trace.proofs.Growing.{stays_same}
use Rattle.sb_trace.proofs.Classes.{no_classes, one_class_more, all_classes, target_known}
use Rattle.sb_trace.specs.Putting.{CountsTapeFault}
use Rattle.sb_trace.proofs.Exits.{counts_none, counts_on}
use Rattle.sb_trace.proofs.trace.Trace.add_classes.Goals as goal

pub loop-place-init : goal.loop-place-init
loop-place-init g c = record {
  stays = stays_same c.args.self.now;
  classes = no_classes c.args.self.now.order c.args.pieces.now c.args.classes.now.items c.requires.none;
  expanded_stay = λ n. refl;
  dead_stay = λ n. refl;
  faults = refl;
  puts = λ asked memo before tracks.
      traces_none asked before c.args.arena.now memo c.args.self.now (g.L.Tape.told c.args.tape.now) tracks;
}

pub loop-place-preserved : goal.loop-place-preserved
loop-place-preserved g c =
    let before = c.loop-place.invariant in
    let h = c.in_ok-number.ensures in
    let t = c.args.self.now in
    let u = c.loop-place.self in
    let v = c.number.new.self in
    record {
      stays = stays_both t u v before.stays h.stays;
      classes =
          one_class_more u v c.args.pieces.now c.loop-place.place c.index-pieces-place.result c.last_of-last.result
          c.in_ok-number.number c.loop-place.classes.items c.add_class.new.classes.items h.stays c.loop-place-test.true
          c.index-pieces-place.is c.last_of-last.ensures h.first c.in_ok-add_class.ensures before.classes;
      expanded_stay = λ n. h.expanded_stay n ∙ before.expanded_stay n;
      dead_stay = λ n. h.dead_stay n ∙ before.dead_stay n;
      faults = h.counts ∙ before.faults;
      puts = λ asked memo kept tracks.
          traces_both asked kept c.args.arena.now memo u v (g.L.Tape.told c.args.tape.now)
          (g.L.Tape.told c.loop-place.tape) (g.L.Tape.told c.number.new.tape) (before.puts asked memo kept tracks)
          (λ after. h.puts asked memo after);
    }

pub number-requires : goal.number-requires
number-requires g c =
    target_known c.args.arena.now c.args.pieces.now c.loop-place.place c.index-pieces-place.result c.requires.targets
    c.loop-place-test.true c.index-pieces-place.is

pub returns : goal.returns
returns g c =
    let before = c.loop-place.invariant in
    record {
      classes = all_classes c.loop-place.self.order c.args.pieces.now c.loop-place.place c.loop-place.classes.items
          c.loop-place-test.false before.classes;
      puts = before.puts;
      stays = before.stays;
      expanded_stay = before.expanded_stay;
      dead_stay = before.dead_stay;
      counts = before.faults;
    }

pub returns-in_err-number : goal.returns-in_err-number
returns-in_err-number g c =
    let x = c.from_residual in
    let p = err_from_is_err_and x.result x.ensures.1 in
    let i = c.loop-place.invariant in
    let n = c.number.ensures in
    record {
      classes = IfOk-from_err x.result _ x.ensures.0;
      puts = IfOk-from_err x.result _ x.ensures.0;
      stays = stays_both c.args.self.now c.loop-place.self c.number.new.self i.stays n.stays;
      expanded_stay = λ m. n.expanded_stay m ∙ i.expanded_stay m;
      dead_stay = λ m. n.dead_stay m ∙ i.dead_stay m;
      counts = subst (λ old. CountsTapeFault x.result old (g.L.Tape.faults c.number.new.tape)) i.faults
          (counts_on ℕ x.result p.0 _ _ _ p.1 p.2 c.in_err-number.ensures.counts);
    }

pub returns-in_err-add_class : goal.returns-in_err-add_class
returns-in_err-add_class g c =
    let x = c.from_residual-in_err-add_class in
    let p = err_from_is_err_and x.result x.ensures.1 in
    let i = c.loop-place.invariant in
    let n = c.in_ok-number.ensures in
    record {
      classes = IfOk-from_err x.result _ x.ensures.0;
      puts = IfOk-from_err x.result _ x.ensures.0;
      stays = stays_both c.args.self.now c.loop-place.self c.number.new.self i.stays n.stays;
      expanded_stay = λ m. n.expanded_stay m ∙ i.expanded_stay m;
      dead_stay = λ m. n.dead_stay m ∙ i.dead_stay m;
      counts = subst (λ old. CountsTapeFault x.result old (g.L.Tape.faults c.number.new.tape)) (n.counts ∙ i.faults)
          (counts_none x.result p.0 (g.L.Tape.faults c.number.new.tape) p.1 p.2);
    }
