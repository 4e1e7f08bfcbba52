use Rattle.sb_clash.proofs.Words.{◌∙◌, ap, refl, subst, sym, IfOk-from_err, Ticks, counts_none, empty, err_from_is_err_and, is_small_literal, line, list_all, rule_line, text_of, with_bytes}
use Rattle.sb_clash.proofs.DenialFacts.{denial_put, denial_waits}
use Rattle.sb_clash.proofs.denying.put_line.Goals as goal

pub returns-then-not-tick : goal.returns-then-not-tick
returns-then-not-tick g c = record {
  puts = λ rs found t atoms can. denial_waits rs found t c.args.budget.now c.tick.new.budget
      (g.L.Tape.told c.args.tape.now) atoms c.args.clause.now (c.tick.ensures.none c.if-not-tick.true);
  ticks = subst (Ticks c.args.budget.now c.tick.new.budget) c.if-not-tick.true c.tick.ensures.ticks;
  steps = c.tick.ensures.steps;
  counts = refl;
}

pub returns-in_err-literals : goal.returns-in_err-literals
returns-in_err-literals g c =
    let r = c.from_residual in
    let p = err_from_is_err_and r.result r.ensures.1 in
    record {
      puts = IfOk-from_err r.result _ r.ensures.0;
      ticks = IfOk-from_err r.result _ r.ensures.0;
      steps = c.tick.ensures.steps;
      counts = counts_none r.result p.0 _ p.1 p.2;
    }

pub returns-in_err-put-clause-puts : goal.returns-in_err-put-clause-puts
returns-in_err-put-clause-puts g c =
    let r = c.from_residual-in_err-put in IfOk-from_err r.result _ r.ensures.0

pub returns-in_err-put-clause-ticks : goal.returns-in_err-put-clause-ticks
returns-in_err-put-clause-ticks g c =
    let r = c.from_residual-in_err-put in IfOk-from_err r.result _ r.ensures.0

pub returns-clause-puts : goal.returns-clause-puts
returns-clause-puts g c =
    let one = c.tick.ensures.one c.if-not-tick.false in
    λ rs found t atoms can. denial_put c.rule_lines_are_exact.ensures rs found t atoms c.args.clause.now c.args.budget.now
    c.tick.new.budget (g.L.Tape.told c.args.tape.now) (g.L.Tape.told c.put.new.self) can one.0 one.1
    (ap (list_all is_small_literal) (sym c.literals.ensures) ∙ c.in_ok-literals.ensures.small)
    (c.in_ok-put.ensures.ok
    ∙ ap (λ ls. with_bytes (line (text_of (rule_line empty ls))) (g.L.Tape.told c.args.tape.now))
    (c.in_ok-literals.ensures.same ∙ c.literals.ensures))

pub returns-clause-ticks : goal.returns-clause-ticks
returns-clause-ticks g c = subst (Ticks c.args.budget.now c.tick.new.budget) c.if-not-tick.false c.tick.ensures.ticks
