use Rattle.sb_search.proofs.Words.{◌≡◌, ◌∙◌, List, refl, sym, ap, subst, arith, inl, IfOk-from_err, told_ok, told_err, Assigned, Assignments, IsTrail, current_level, up_to-all, AreAssumed, IsAsserting, moment, teaches_below, is_highest}
use Rattle.sb_search.specs.declared.found.Found.TheVariants as found
use Rattle.sb_search.proofs.Steps.{stays_none, faults_on, faults_stay}
use Rattle.sb_search.proofs.Ends.{refutes_spent, turn_refuted, turn_learned}
use Rattle.sb_search.proofs.conflict.resolve.Goals as goal

pub refute-requires : goal.refute-requires
refute-requires g c =
    let is_trail = subst (λ (t : Assignments). IsTrail t) c.trail-trail.ensures c.literals-before.ensures.trail in
    let at : c.current_level.result ≡ current_level c.args.engine.now.trail.literals =
    c.current_level.ensures ∙ ap (λ (t : Assignments). current_level t.literals) c.trail-trail.ensures in
    record {
      reasoned = c.requires.ready.searching.reasoned;
      assumed = subst (λ (es : List Assigned). AreAssumed c.args.assumptions.now es)
          (up_to-all c.args.stage.now.levels 0 c.args.engine.now.trail.literals is_trail.levelled
          (omega (arith, at, c.if-current_level-stage.true))) c.requires.ready.searching.assumed;
      conflict = inl c.requires.conflict;
    }

pub learn-requires : goal.learn-requires
learn-requires g c =
    let is_trail = subst (λ (t : Assignments). IsTrail t) c.trail-trail.ensures c.literals-before.ensures.trail in
    let at : c.current_level.result ≡ current_level c.args.engine.now.trail.literals =
    c.current_level.ensures ∙ ap (λ (t : Assignments). current_level t.literals) c.trail-trail.ensures in
    record {
      reasoned = rw (c.clauses.ensures, c.trail.ensures) c.requires.ready.searching.reasoned;
      conflict = rw (c.clauses.ensures, c.trail.ensures)
          (teaches_below c.args.engine.now.kept c.args.engine.now.trail is_trail c.requires.ready.searching.below
          (omega (arith, at, c.if-current_level-stage.false)) c.args.conflict.0 c.requires.conflict);
    }

pub returns-in_err-found : goal.returns-in_err-found
returns-in_err-found g c = record {
  turned = IfOk-from_err c.from_residual.result _ c.from_residual.ensures.0;
  stays = stays_none c.args.theory.now;
  counts = faults_on c.from_residual.result _ c.in_err-found.was c.from_residual.ensures.1 refl c.refute.ensures.counts;
}

pub returns-in_err-lesson : goal.returns-in_err-lesson
returns-in_err-lesson g c =
    let r = c.from_residual-in_err-lesson in
    record {
      turned = IfOk-from_err r.result _ r.ensures.0;
      stays = stays_none c.args.theory.now;
      counts = faults_stay r.result r.ensures.1 refl;
    }

pub returns-in_err-put_learned : goal.returns-in_err-put_learned
returns-in_err-put_learned g c =
    let r = c.from_residual-in_err-put_learned in
    record {
      turned = IfOk-from_err r.result _ r.ensures.0;
      stays = stays_none c.args.theory.now;
      counts = faults_on r.result _ c.in_err-put_learned.was r.ensures.1 refl c.put_learned.ensures.counts;
    }

pub returns-in_err-keep_at : goal.returns-in_err-keep_at
returns-in_err-keep_at g c =
    let r = c.from_residual-in_err-keep_at in
    record {
      turned = IfOk-from_err r.result _ r.ensures.0;
      stays = c.keep_at.ensures.back.stays;
      counts = faults_stay r.result r.ensures.1 c.in_ok-put_learned.ensures.counts;
    }

pub returns-then-current_level-stage : goal.returns-then-current_level-stage
returns-then-current_level-stage g c = record {
  turned = turn_refuted c.keeps_laws.ensures c.args.assumptions.now c.args.stage.now c.args.stage.now
      (moment c.args.theory.now c.args.engine.now c.args.budget.now (g.L.Tape.told c.args.tape.now)) c.refute.new.engine
      c.refute.new.budget (g.L.Tape.told c.refute.new.tape) c.in_ok-found.found c.requires.ready
      c.in_ok-found.ensures.refutes;
  stays = stays_none c.args.theory.now;
  counts = c.in_ok-found.ensures.counts;
}

pub returns-then-is_err : goal.returns-then-is_err
returns-then-is_err g c =
    let no_step = sym c.is_err.ensures.value ∙ c.if-is_err.true in
    record {
      turned = turn_refuted c.keeps_laws.ensures c.args.assumptions.now c.args.stage.now c.args.stage.now
          (moment c.args.theory.now c.args.engine.now c.args.budget.now (g.L.Tape.told c.args.tape.now))
          c.args.engine.now c.tick.new.self (g.L.Tape.told c.args.tape.now) found.Spent c.requires.ready
          (refutes_spent c.args.assumptions.now c.args.engine.now c.args.budget.now c.tick.new.self
          (g.L.Tape.told c.args.tape.now) c.requires.ready.searching.reasoned
          (told_err c.tick.result _ no_step c.tick.ensures.same)
          (told_err c.tick.result _ no_step c.tick.ensures.spent));
      stays = stays_none c.args.theory.now;
      counts = refl;
    }

pub returns : goal.returns
returns g c =
    let is_trail = subst (λ (t : Assignments). IsTrail t) c.trail-trail.ensures c.literals-before.ensures.trail in
    let at : c.current_level.result ≡ current_level c.args.engine.now.trail.literals =
    c.current_level.ensures ∙ ap (λ (t : Assignments). current_level t.literals) c.trail-trail.ensures in
    let ticked = sym c.is_err.ensures.value ∙ c.if-is_err.false in
    let asserting =
    subst (λ n. IsAsserting c.args.engine.now.kept c.args.engine.now.trail.literals n c.in_ok-lesson.lesson)
    (is_highest c.args.engine.now.kept c.args.engine.now.trail is_trail c.requires.ready.searching.below
    (omega (arith, at, c.if-current_level-stage.false)) c.args.conflict.0 c.requires.conflict)
    (rw (c.clauses.ensures, c.trail.ensures) at c.in_ok-lesson.ensures c.requires.conflict.clause
    c.requires.conflict.there) in
    record {
      turned = turn_learned c.keeps_laws.ensures c.args.assumptions.now c.learned_follows.ensures c.args.stage.now
          c.keep_at.new.stage
          (moment c.args.theory.now c.args.engine.now c.args.budget.now (g.L.Tape.told c.args.tape.now))
          (moment c.keep_at.new.theory c.keep_at.new.engine c.tick.new.self (g.L.Tape.told c.put_learned.new.tape))
          c.in_ok-lesson.lesson c.level-level.result c.requires.ready is_trail asserting
          c.in_ok-put_learned.ensures.has_text (told_ok c.tick.result _ ticked c.tick.ensures.room)
          (told_ok c.tick.result _ ticked c.tick.ensures.ok) c.in_ok-put_learned.ensures.told c.level-level.ensures
          c.keep_at.ensures.back c.in_ok-keep_at.ensures.keeps;
      stays = c.keep_at.ensures.back.stays;
      counts = c.in_ok-put_learned.ensures.counts;
    }
