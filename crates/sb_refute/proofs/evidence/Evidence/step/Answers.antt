use Rattle.sb_refute.proofs.Words.{◌≡◌, inl, inr, refl, sym, ap, subst, ◌∙◌, arith, false≢true, told_err, told_ok, IfOk-from_err, err_from_is_err_and, counts_none, counts_on, puts_none, Backing, Evidences, IsCounted, IsCover, IsCovered, Spending}
use Rattle.sb_refute.proofs.Settled.{covered-new, step-put}
use Rattle.sb_refute.proofs.evidence.Evidence.step.Goals as goal

pub returns-then-covered : goal.returns-then-covered
returns-then-covered g c = record {
  steps = record {
    is = inl refl;
    covered = λ done.
        subst (IsCover c.args.self.now.kept c.args.literals.now) c.if-covered.true c.in_ok-covered.ensures;
    spent = λ not_done. absurd (false≢true (sym not_done));
    limit = refl;
    spends = omega arith;
    puts = λ on asked rs memo kept step b counted.
        let told = g.L.Tape.told c.args.tape.now in
        record { after = kept; puts = puts_none asked kept told; backs = b; counts = counted };
  };
  counts = refl;
}

pub returns-then-is_err : goal.returns-then-is_err
returns-then-is_err g c =
    let no_step = sym c.is_err.ensures.value ∙ c.if-is_err.true in
    let same = told_err c.tick.result _ no_step c.tick.ensures.same in
    let spent = told_err c.tick.result _ no_step c.tick.ensures.spent in
    record {
      steps = record {
        is = inl refl;
        covered = λ done. absurd (false≢true done);
        spent = λ not_done. subst (λ (s : Spending). s.spent ≡ s.limit) (sym same) spent;
        limit = ap (λ (s : Spending). s.limit) same;
        spends = omega (arith, ap (λ (s : Spending). s.spent) same);
        puts = λ on asked rs memo kept step b counted. record {
          after = kept;
          puts = puts_none asked kept (g.L.Tape.told c.args.tape.now);
          backs = b;
          counts = subst (IsCounted asked kept) (sym same) counted;
        };
      };
      counts = refl;
    }

pub returns : goal.returns
returns g c =
    let e = c.args.self.now in
    let clause = c.args.literals.now in
    let ticked = sym c.is_err.ensures.value ∙ c.if-is_err.false in
    let room = told_ok c.tick.result _ ticked c.tick.ensures.room in
    let spent = told_ok c.tick.result _ ticked c.tick.ensures.ok in
    let put = c.in_ok-put_step.ensures.ok in
    let none = subst (IsCover e.kept clause) c.if-covered.false c.in_ok-covered.ensures in
    record {
      steps = record {
        is = inr put.0;
        covered = λ done. subst (λ (f : Backing). IsCovered f.kept clause) (sym put.0) (covered-new e.kept clause);
        spent = λ not_done. absurd (false≢true (sym not_done));
        limit = ap (λ (s : Spending). s.limit) spent;
        spends = omega (arith, ap (λ (s : Spending). s.spent) spent);
        puts = λ on asked rs memo kept step b counted.
            let line = put.1 on in
            subst (λ (f : Backing). Evidences asked kept rs memo f c.tick.new.self (g.L.Tape.told c.args.tape.now)
            (g.L.Tape.told c.put_step.new.tape)) (sym put.0)
            (step-put e clause (g.L.Tape.told c.args.tape.now) (g.L.Tape.told c.put_step.new.tape) c.args.budget.now
            c.tick.new.self c.requires.known c.requires.ascends none line.0 room spent line.1 asked rs memo kept step b
            counted);
      };
      counts = c.in_ok-put_step.ensures.counts;
    }

pub returns-in_err-covered : goal.returns-in_err-covered
returns-in_err-covered g c =
    let x = c.from_residual in
    let p = err_from_is_err_and x.result x.ensures.1 in
    record { steps = IfOk-from_err x.result _ x.ensures.0; counts = counts_none x.result p.0 _ p.1 p.2 }

pub returns-in_err-put_step : goal.returns-in_err-put_step
returns-in_err-put_step g c =
    let x = c.from_residual-in_err-put_step in
    let p = err_from_is_err_and x.result x.ensures.1 in
    record {
      steps = IfOk-from_err x.result _ x.ensures.0;
      counts = counts_on (Unit {0}) x.result p.0 _ _ _ p.1 p.2 c.in_err-put_step.ensures.counts;
    }
