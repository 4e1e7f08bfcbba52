use Rattle.sb_refute.proofs.Words.{◌≡◌, ◌-◌, length, KeptStay, LeadsAlways}
use Rattle.sb_refute.proofs.evidence.Evidence.put_gates.Given as goal

abbrev pub invariant-loop-self : goal.invariant-loop-self
invariant-loop-self g l =
    record {
      rest : l.self ≡ record l.fn.self { kept = l.self.kept; gates = l.self.gates };
      faults : g.L.Tape.faults l.tape ≡ g.L.Tape.faults l.fn.tape;
      puts : LeadsAlways l.fn.self l.self (g.L.Tape.told l.fn.tape) (g.L.Tape.told l.tape);
      stay : KeptStay l.fn.self.kept l.self.kept;
    }

abbrev pub decreases-loop-self : goal.decreases-loop-self
decreases-loop-self g l = length l.self.atoms - l.self.gates
