use Rattle.sb_search.proofs.Words.{refl, IfOk-from_err, Stays}
use Rattle.sb_search.proofs.Steps.{faults_on}
use Rattle.sb_search.proofs.turn.ask.Goals as goal

pub check-requires : goal.check-requires
check-requires g c = record {
  none_false = rw (c.trail.ensures, c.clauses.ensures) c.requires.settled.none_false;
  stands = rw c.trail.ensures c.requires.stands;
}

pub returns : goal.returns
returns g c =
    let h = c.in_ok-answer.ensures in
    let stays : Stays g.T.Theory c.args.theory.now c.check.new.self =
    record { wanted = h.wanted; passes = h.passes; teaches = h.teaches } in
    record {
      answered = record {
        stays = stays;
        stands = rw c.trail.ensures at h.stands;
        spends = record { limit = h.limit; spent = h.spends; within = h.within };
        fair = rw c.trail.ensures at h.fair;
        agrees = rw c.trail.ensures at h.agrees;
        spent = h.spent;
        falls = rw (c.trail.ensures, c.clauses.ensures) at h.falls;
        puts = rw c.clauses.ensures at h.puts;
      };
      stays = stays;
      counts = h.counts;
    }

pub returns-in_err-answer : goal.returns-in_err-answer
returns-in_err-answer g c =
    let h = c.check.ensures in
    record {
      answered = IfOk-from_err c.from_residual.result _ c.from_residual.ensures.0;
      stays = record { wanted = h.wanted; passes = h.passes; teaches = h.teaches };
      counts = faults_on c.from_residual.result _ c.in_err-answer.was c.from_residual.ensures.1 refl h.counts;
    }
