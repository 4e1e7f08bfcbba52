use Rattle.sb_theory.proofs.Words.{◌≡◌, length, Holds, Keeps}
use Rattle.sb_theory.proofs.strings.Strings.take_back.Given as goal

abbrev pub invariant-loop-entry : goal.invariant-loop-entry
invariant-loop-entry l = record {
  holds : Holds l.self;
  keeps : Keeps l.fn.self l.self;
  words : l.self.words ≡ l.fn.self.words;
  noted : l.self.noted ≡ l.fn.self.noted;
}

abbrev pub decreases-loop-entry : goal.decreases-loop-entry
decreases-loop-entry l = length l.self.taken.items
