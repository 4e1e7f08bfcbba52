use Rattle.sb_theory.proofs.Words.{subst, IfOk-from_err, IsPaid, Checked, counts_on, err_from_is_err_and}
use Rattle.sb_theory.proofs.Answering.{answer_falls, counts_faults}
use Rattle.sb_theory.proofs.Moving.{passes_grow, taught_grows, wanted_stays}
use Rattle.sb_theory.proofs.Wishes.{ungranted_asked}
use Rattle.sb_theory.proofs.strings.StringsTheory.check.Goals as goal

pub returns-in_err-checked : goal.returns-in_err-checked
returns-in_err-checked g c =
    let r = c.from_residual in
    let p = err_from_is_err_and r.result r.ensures.1 in
    let look = c.in_err-checked.ensures in
    record {
      stands = IfOk-from_err r.result _ r.ensures.0;
      wanted = wanted_stays look.grows;
      passes = passes_grow look.grows;
      teaches = taught_grows look.grows;
      limit = look.steps.limit;
      spends = look.steps.spent;
      within = look.steps.within;
      fair = IfOk-from_err r.result _ r.ensures.0;
      agrees = IfOk-from_err r.result _ r.ensures.0;
      spent = IfOk-from_err r.result _ r.ensures.0;
      falls = IfOk-from_err r.result _ r.ensures.0;
      puts = IfOk-from_err r.result _ r.ensures.0;
      counts = counts_faults r.result (g.L.Tape.faults c.args.tape.now) (g.L.Tape.faults c.look.new.tape)
          (counts_on Checked r.result p.0 _ _ _ p.1 p.2 look.counts);
    }

pub returns : goal.returns
returns g c =
    let look = c.in_ok-checked.ensures in
    let h = look.answers in
    let y = c.look.new.self in
    let entries = c.args.trail.now.literals in
    record {
      stands = h.stands;
      wanted = wanted_stays look.grows;
      passes = passes_grow look.grows;
      teaches = taught_grows look.grows;
      limit = look.steps.limit;
      spends = look.steps.spent;
      within = look.steps.within;
      fair = h.fair;
      agrees = λ last. h.agrees last;
      spent = λ is. subst (IsPaid c.args.budget.now c.look.new.budget) is h.paid;
      falls = λ same. answer_falls c.args.self.now y c.args.clauses.now entries c.args.budget.now c.look.new.budget
          c.in_ok-checked.checked h.paid same h.quiet h.wished
          (λ l wish none. ungranted_asked y entries l c.order_tells_apart.ensures
          c.normal_regexes_each_once.ensures.distinct c.atoms_each_once.ensures h.stands.holds.regexes wish none);
      puts = h.writes c.args.clauses.now c.requires.none_false;
      counts = look.counts;
    }
