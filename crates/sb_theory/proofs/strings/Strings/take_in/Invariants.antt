use Rattle.sb_theory.proofs.Words.{◌-◌, ◌≡◌, length, Keeps, Stands}
use Rattle.sb_theory.proofs.strings.Strings.take_in.Given as goal

abbrev pub invariant-loop-self : goal.invariant-loop-self
invariant-loop-self l = record {
  stands : Stands l.self l.trail.literals;
  noted : l.self.noted ≡ l.fn.self.noted;
  keeps : Keeps l.fn.self l.self;
}

abbrev pub decreases-loop-self : goal.decreases-loop-self
decreases-loop-self l = length l.trail.literals - length l.self.taken.items
