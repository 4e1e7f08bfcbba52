use Rattle.sb_clash.proofs.Words.{◌∙◌, ap, arith, sym, Spending, false≢true, spent_one, spent_same, true≢false, told_err, told_ok}
use Rattle.sb_clash.proofs.denying.tick.Goals as goal

pub returns-then-is_err : goal.returns-then-is_err
returns-then-is_err c =
    let failed = sym c.is_err.ensures.value ∙ c.if-is_err.true in
    let same = told_err c.tick.result _ failed c.tick.ensures.same in
    record {
      ticks = record {
        more = λ done. absurd (false≢true done);
        spent = λ waits. ap (λ (b : Spending). b.spent) same ∙ told_err c.tick.result _ failed c.tick.ensures.spent
            ∙ sym (ap (λ (b : Spending). b.limit) same);
      };
      one = λ done. absurd (false≢true done);
      none = λ waits. same;
      steps = spent_same c.args.budget.now c.tick.new.self same;
    }

pub returns : goal.returns
returns c =
    let ticked = sym c.is_err.ensures.value ∙ c.if-is_err.false in
    let one = told_ok c.tick.result _ ticked c.tick.ensures.ok in
    let more = ap (λ (b : Spending). b.spent) one in
    record {
      ticks = record { more = λ done. omega (arith, more); spent = λ waits. absurd (true≢false waits) };
      one = λ done. (told_ok c.tick.result _ ticked c.tick.ensures.room, one);
      none = λ waits. absurd (true≢false waits);
      steps = spent_one c.args.budget.now c.tick.new.self one c.tick.ensures.within;
    }
