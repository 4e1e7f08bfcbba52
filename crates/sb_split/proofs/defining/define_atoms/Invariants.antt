use Rattle.sb_split.proofs.Words.{◌≡◌, ◌≤◌, ◌-◌, atoms_in, length, take, AllKept, AreDue, Asked, DefinesAtoms, Memo, OnlyNumbers, Tracks}
use Rattle.sb_split.proofs.defining.define_atoms.Given as goal

abbrev pub invariant-loop-number : goal.invariant-loop-number
invariant-loop-number g l =
    record {
      behind : l.fn.known ≤ l.number;
      stays : OnlyNumbers l.fn.trace l.trace;
      faults : g.L.Tape.faults l.tape ≡ g.L.Tape.faults l.fn.tape;
      puts : (asked : Asked) (memo : Memo) (before : AllKept) → AreDue asked l.fn.known l.atoms
          → Tracks l.arena memo l.fn.trace before → before.atoms ≡ atoms_in l.arena (take l.fn.known l.atoms)
          → DefinesAtoms asked before l.arena memo l.trace (take l.number l.atoms) (g.L.Tape.told l.fn.tape)
          (g.L.Tape.told l.tape);
    }

abbrev pub decreases-loop-number : goal.decreases-loop-number
decreases-loop-number g l = length l.atoms - l.number
