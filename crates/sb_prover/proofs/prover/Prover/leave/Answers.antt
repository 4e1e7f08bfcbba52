use Rattle.sb_prover.proofs.Words.{IfSome, take, refl, sym, ap, subst, AreLow, Backing, GoesDown, HaveLevels, IsAbreast, IsTrue, Proving, leaving, met, all_dropped, dropped_above}
use Rattle.sb_prover.proofs.Leaving.{levels-up-to, levels-left_above, none-there, left-behind}
use Rattle.sb_prover.proofs.prover.Prover.leave.Goals as goal

pub returns-in-Some-clause-left : goal.returns-in-Some-clause-left
returns-in-Some-clause-left c = λ x live p h levels low.
    let v : Proving = record { evidence = c.self.inside.evidence; begun = c.self.inside.begun } in
    let n = c.in-Some.level in
    let count = c.args.count in
    let now = subst (λ (w : Proving). IsAbreast x w p) (sym c.self.view_is) h in
    subst (λ o. IsAbreast x (record v { evidence = c.leave_above.new.self }) (met (leaving o) p))
    (sym c.in-Some.is)
    (left-behind x p v c.leave_above.new.self (dropped_above n p.kept) now
    (ap (λ (e : Backing). e.atoms) c.leave_above.ensures.left_above) (ap (dropped_above n)) refl refl
    (c.leave_above.ensures.backs x.arena x.graph.memo p.kept now.backs
    (levels-up-to live n count v.evidence
    (subst (λ (w : Proving). HaveLevels live w.evidence) (sym c.self.view_is) levels)
    (subst (λ o. IfSome o (λ m. AreLow m (take count live))) c.in-Some.is low))))

pub returns-in-Some-clause-levels : goal.returns-in-Some-clause-levels
returns-in-Some-clause-levels c = λ live levels.
    subst (HaveLevels (take c.args.count live)) (sym c.leave_above.ensures.left_above)
    (levels-left_above live c.in-Some.level c.args.count c.self.inside.evidence
    (subst (λ (w : Proving). HaveLevels live w.evidence) (sym c.self.view_is) levels))

pub returns-in-None-clause-left : goal.returns-in-None-clause-left
returns-in-None-clause-left c = λ x live p h levels low.
    let v : Proving = record { evidence = c.self.inside.evidence; begun = c.self.inside.begun } in
    let now = subst (λ (w : Proving). IsAbreast x w p) (sym c.self.view_is) h in
    subst (λ o. IsAbreast x (record v { evidence = c.leave_all.new.self }) (met (leaving o) p)) (sym c.in-None.is)
    (left-behind x p v c.leave_all.new.self (all_dropped p.kept) now
    (ap (λ (e : Backing). e.atoms) c.leave_all.ensures.left_all) (ap all_dropped) refl refl
    (c.leave_all.ensures.backs x.arena x.graph.memo p.kept now.backs))

pub returns-in-None-clause-levels : goal.returns-in-None-clause-levels
returns-in-None-clause-levels c = λ live levels.
    subst (HaveLevels (take c.args.count live)) (sym c.leave_all.ensures.left_all)
    (λ place a there. absurd (none-there place a there))

pub returns-in-Some-clause-sound : goal.returns-in-Some-clause-sound
returns-in-Some-clause-sound c = λ x before now goes levels low h.
    let n = c.in-Some.level in
    let count = c.args.count in
    let t = subst (λ (w : Proving). IsTrue before x.arena x.graph.memo w.evidence) (sym c.self.view_is) h in
    record {
      kept = dropped_above n t.kept;
      backs = c.leave_above.ensures.backs x.arena x.graph.memo t.kept t.backs
          (levels-up-to before.live n count c.self.inside.evidence
          (subst (λ (w : Proving). HaveLevels before.live w.evidence) (sym c.self.view_is) levels)
          (subst (λ o. IfSome o (λ m. AreLow m (take count before.live))) c.in-Some.is low));
      sound = c.dropped_stays_sound.ensures n before now t.kept (subst (λ o. GoesDown o before now) c.in-Some.is goes)
          t.sound;
      counted = t.counted;
    }

pub returns-in-None-clause-sound : goal.returns-in-None-clause-sound
returns-in-None-clause-sound c = λ x before now goes levels low h.
    let t = subst (λ (w : Proving). IsTrue before x.arena x.graph.memo w.evidence) (sym c.self.view_is) h in
    record {
      kept = all_dropped t.kept;
      backs = c.leave_all.ensures.backs x.arena x.graph.memo t.kept t.backs;
      sound = c.all_dropped_is_sound.ensures before now t.kept t.sound;
      counted = t.counted;
    }
