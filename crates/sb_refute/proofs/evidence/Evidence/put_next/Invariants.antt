use Rattle.sb_refute.proofs.Words.{◌≡◌, ◌++◌, map, take, LeadsAlways, at_bottom}
use Rattle.sb_refute.proofs.evidence.Evidence.put_next.Given as goal

abbrev pub invariant-loop-clause : goal.invariant-loop-clause
invariant-loop-clause g l =
    record {
      kept : l.self ≡ record l.fn.self { kept = l.fn.self.kept ++ map at_bottom (take l.clause-index l.clause-items) };
      faults : g.L.Tape.faults l.tape ≡ g.L.Tape.faults l.fn.tape;
      puts : LeadsAlways l.fn.self l.self (g.L.Tape.told l.fn.tape) (g.L.Tape.told l.tape);
    }
