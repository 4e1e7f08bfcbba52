use Rattle.sb_search.proofs.Words.{List, ◌∙◌, refl, subst, ap, IfOk-from_err, IfOk-weaker, Assigned, Assignments, IsTrail, reason_of, up_to-all, AreAssumed, moment}
use Rattle.sb_search.proofs.Refuting.{final_reason}
use Rattle.sb_search.proofs.Steps.{stays_none, faults_on}
use Rattle.sb_search.proofs.Ends.{ready_grown, turned_grown, turn_refuted}
use Rattle.sb_search.proofs.turn.take_turn.Goals as goal

pub resolve-requires : goal.resolve-requires
resolve-requires g c = record {
  ready = ready_grown c.keeps_laws.ensures c.args.assumptions.now c.args.stage.now c.args.theory.now c.args.engine.now
      c.propagate.new.self c.propagate.ensures.kept c.propagate.ensures.grows c.requires;
  conflict = rw c.propagate.ensures.kept c.in-Conflict.ensures.answer;
}

pub next-requires : goal.next-requires
next-requires g c =
    (ready_grown c.keeps_laws.ensures c.args.assumptions.now c.args.stage.now c.args.theory.now c.args.engine.now
    c.propagate.new.self c.propagate.ensures.kept c.propagate.ensures.grows c.requires).searching

pub follow-requires : goal.follow-requires
follow-requires g c =
    let ready = ready_grown c.keeps_laws.ensures c.args.assumptions.now c.args.stage.now c.args.theory.now c.args.engine.now
    c.propagate.new.self c.propagate.ensures.kept c.propagate.ensures.grows c.requires in
    record {
      ready = record { searching = c.next.ensures.searching; stands = ready.stands; known = ready.known };
      settled = rw c.propagate.ensures.kept c.in_default.ensures.answer;
      next = c.in-Ok.ensures.next;
    }

pub refute-requires : goal.refute-requires
refute-requires g c =
    let is_trail = subst (λ (t : Assignments). IsTrail t) c.trail-trail.ensures c.literals-before.ensures.trail in
    let assumed = subst (λ (es : List Assigned). AreAssumed c.args.assumptions.now es)
    (up_to-all c.next.new.self.levels 0 c.propagate.new.self.trail.literals is_trail.levelled c.in-Err.ensures.next.0)
    c.in-Err.ensures.searching.assumed in
    record {
      reasoned = c.in-Err.ensures.searching.reasoned;
      assumed = assumed;
      conflict = final_reason c.propagate.new.self.kept c.propagate.new.self.trail.literals c.args.assumptions.now
          c.in-Err.literal c.reason-reason.result
          (c.reason-reason.ensures
          ∙ ap (λ (t : Assignments). reason_of t.literals c.in-Err.literal.atom) c.trail-trail.ensures)
          is_trail.distinct assumed c.in-Err.ensures.next.1 c.in-Err.ensures.next.2;
    }

pub returns-in-Conflict : goal.returns-in-Conflict
returns-in-Conflict g c = record {
  turned = IfOk-weaker c.resolve.result _ _
      (λ how. turned_grown c.keeps_laws.ensures c.args.assumptions.now c.resolve.new.stage
      (moment c.args.theory.now c.args.engine.now c.args.budget.now (g.L.Tape.told c.args.tape.now))
      (moment c.resolve.new.theory c.resolve.new.engine c.resolve.new.budget (g.L.Tape.told c.resolve.new.tape))
      c.propagate.new.self how c.propagate.ensures.kept c.propagate.ensures.grows) c.resolve.ensures.turned;
  stays = c.resolve.ensures.stays;
  counts = c.resolve.ensures.counts;
}

pub returns-in-Ok : goal.returns-in-Ok
returns-in-Ok g c = record {
  turned = IfOk-weaker c.follow.result _ _
      (λ how. turned_grown c.keeps_laws.ensures c.args.assumptions.now c.follow.new.stage
      (moment c.args.theory.now c.args.engine.now c.args.budget.now (g.L.Tape.told c.args.tape.now))
      (moment c.follow.new.theory c.follow.new.engine c.follow.new.budget (g.L.Tape.told c.follow.new.tape))
      c.propagate.new.self how c.propagate.ensures.kept c.propagate.ensures.grows) c.follow.ensures.turned;
  stays = c.follow.ensures.stays;
  counts = c.follow.ensures.counts;
}

pub returns-in_ok-found-in-Err : goal.returns-in_ok-found-in-Err
returns-in_ok-found-in-Err g c =
    let ready = ready_grown c.keeps_laws.ensures c.args.assumptions.now c.args.stage.now c.args.theory.now c.args.engine.now
    c.propagate.new.self c.propagate.ensures.kept c.propagate.ensures.grows c.requires in
    record {
      turned = turned_grown c.keeps_laws.ensures c.args.assumptions.now c.next.new.self
          (moment c.args.theory.now c.args.engine.now c.args.budget.now (g.L.Tape.told c.args.tape.now))
          (moment c.args.theory.now c.refute.new.engine c.refute.new.budget (g.L.Tape.told c.refute.new.tape))
          c.propagate.new.self _ c.propagate.ensures.kept c.propagate.ensures.grows
          (turn_refuted c.keeps_laws.ensures c.args.assumptions.now c.args.stage.now c.next.new.self
          (moment c.args.theory.now c.propagate.new.self c.args.budget.now (g.L.Tape.told c.args.tape.now))
          c.refute.new.engine c.refute.new.budget (g.L.Tape.told c.refute.new.tape) c.in_ok-found-in-Err.found ready
          c.in_ok-found-in-Err.ensures.refutes);
      stays = stays_none c.args.theory.now;
      counts = c.in_ok-found-in-Err.ensures.counts;
    }

pub returns-in_err-found-in-Err : goal.returns-in_err-found-in-Err
returns-in_err-found-in-Err g c =
    let r = c.from_residual in
    record {
      turned = IfOk-from_err r.result _ r.ensures.0;
      stays = stays_none c.args.theory.now;
      counts = faults_on r.result _ c.in_err-found-in-Err.was r.ensures.1 refl c.refute.ensures.counts;
    }
