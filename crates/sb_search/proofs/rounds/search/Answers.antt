use Rattle.sb_search.proofs.Words.{refl, subst, IfOk-from_err, IsFound, Found}
use Rattle.sb_search.proofs.Following.{follows_in_all, refuted}
use Rattle.sb_search.proofs.Steps.{faults_on}
use Rattle.sb_search.proofs.rounds.search.Goals as goal

pub returns : goal.returns
returns g c =
    let k = c.in_ok-found.ensures.turned in
    record {
      found = k.goes_on.says;
      agrees = k.goes_on.agrees;
      kept = k.steps.grows;
      follows = follows_in_all (g.T.Theory.teaches c.run.new.theory) c.args.engine.now.kept c.run.new.engine.kept
          k.steps.follows;
      follows_by_level = k.steps.follows;
      refuted = λ id is. refuted (g.T.Theory.teaches c.run.new.theory) c.args.engine.now.kept c.run.new.engine.kept
          c.args.assumptions.now id.0 k.steps.follows
          (subst (λ (x : Found). IsFound (g.T.Theory.wanted c.run.new.theory) c.args.assumptions.now c.run.new.engine
          c.run.new.budget x) is k.goes_on.says);
      reasoned = k.goes_on.reasoned;
      stands = k.goes_on.stands;
      limit = k.steps.spends.limit;
      spends = k.steps.spends.spent;
      known = k.goes_on.known.clauses;
      puts = k.steps.puts;
      wanted = c.run.ensures.stays.wanted;
      passes = c.run.ensures.stays.passes;
      teaches = c.run.ensures.stays.teaches;
      counts = c.in_ok-found.ensures.counts;
    }

pub returns-in_err-found : goal.returns-in_err-found
returns-in_err-found g c =
    let r = c.from_residual in
    let none = r.ensures.0 in
    record {
      found = IfOk-from_err r.result _ none;
      agrees = IfOk-from_err r.result _ none;
      kept = IfOk-from_err r.result _ none;
      follows = IfOk-from_err r.result _ none;
      follows_by_level = IfOk-from_err r.result _ none;
      refuted = IfOk-from_err r.result _ none;
      reasoned = IfOk-from_err r.result _ none;
      stands = IfOk-from_err r.result _ none;
      limit = IfOk-from_err r.result _ none;
      spends = IfOk-from_err r.result _ none;
      known = IfOk-from_err r.result _ none;
      puts = IfOk-from_err r.result _ none;
      wanted = c.run.ensures.stays.wanted;
      passes = c.run.ensures.stays.passes;
      teaches = c.run.ensures.stays.teaches;
      counts = faults_on r.result _ c.in_err-found.was r.ensures.1 refl c.run.ensures.counts;
    }
