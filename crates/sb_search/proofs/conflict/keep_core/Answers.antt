use Rattle.sb_search.proofs.Words.{refl, sym, ◌∙◌, IfOk-from_err, told_ok, told_err, learns}
use Rattle.sb_search.proofs.Refuting.{refutes_kept}
use Rattle.sb_search.proofs.Steps.{faults_on, faults_stay}
use Rattle.sb_search.proofs.Ends.{refutes_spent}
use Rattle.sb_search.proofs.conflict.keep_core.Goals as goal

pub returns : goal.returns
returns g c = record {
  refutes = λ assumptions h.
      let lesson = c.args.lesson.now in
      let ticked = sym c.is_err.ensures.value ∙ c.if-is_err.false in
      refutes_kept assumptions c.args.engine.now c.keep.new.engine c.args.budget.now c.tick.new.self
      (g.L.Tape.told c.args.tape.now) (g.L.Tape.told c.put_learned.new.tape)
      (record { literals = lesson.clause; level = lesson.level }) c.in_ok-id.id c.in_ok-id.ensures c.requires h.negated
      (learns lesson.clause lesson.hints lesson.level h.is_lesson
      (c.learned_follows.ensures c.args.engine.now.kept lesson.clause lesson.hints lesson.level h.is_lesson)
      c.in_ok-put_learned.ensures.has_text
      (told_ok c.tick.result _ ticked c.tick.ensures.room)
      (rw (
        c.in_ok-id.ensures.kept,
        told_ok c.tick.result _ ticked c.tick.ensures.ok,
        c.in_ok-put_learned.ensures.told,
      )));
  counts = c.in_ok-put_learned.ensures.counts;
}

pub returns-then-is_err : goal.returns-then-is_err
returns-then-is_err g c = record {
  refutes = λ assumptions h.
      let no_step = sym c.is_err.ensures.value ∙ c.if-is_err.true in
      refutes_spent assumptions c.args.engine.now c.args.budget.now c.tick.new.self (g.L.Tape.told c.args.tape.now)
      c.requires (told_err c.tick.result _ no_step c.tick.ensures.same)
      (told_err c.tick.result _ no_step c.tick.ensures.spent);
  counts = refl;
}

pub returns-in_err-put_learned : goal.returns-in_err-put_learned
returns-in_err-put_learned g c =
    let r = c.from_residual in
    record {
      refutes = IfOk-from_err r.result _ r.ensures.0;
      counts = faults_on r.result _ c.in_err-put_learned.was r.ensures.1 refl c.put_learned.ensures.counts;
    }

pub returns-in_err-id : goal.returns-in_err-id
returns-in_err-id g c =
    let r = c.from_residual-in_err-id in
    record {
      refutes = IfOk-from_err r.result _ r.ensures.0;
      counts = faults_stay r.result r.ensures.1 c.in_ok-put_learned.ensures.counts;
    }
