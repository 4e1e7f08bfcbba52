use Rattle.sb_theory.proofs.Words.{◌≡◌, ◌≤◌, length, Holds, Keeps}
use Rattle.sb_theory.proofs.Verdicts.{AreFine}
use Rattle.sb_theory.specs.Walks.{rows_of}
use Rattle.sb_theory.proofs.strings.Strings.last_wrong.Given as goal

abbrev pub invariant-loop-place : goal.invariant-loop-place
invariant-loop-place l = record {
  holds : Holds l.self;
  keeps : Keeps l.fn.self l.self;
  rows : rows_of l.self ≡ rows_of l.fn.self;
  noted : l.self.noted ≡ l.fn.self.noted;
  within : l.place ≤ length l.trail.literals;
  fine : AreFine l.fn.self l.trail.literals l.place;
}

abbrev pub decreases-loop-place : goal.decreases-loop-place
decreases-loop-place l = l.place
