use Rattle.sb_theory.proofs.Words.{◌≡◌, length, Holds, Keeps}
use Rattle.sb_theory.proofs.strings.Strings.suggest.Given as goal

abbrev pub invariant-loop-pair : goal.invariant-loop-pair
invariant-loop-pair l = record {
  holds : Holds l.self;
  taken : l.self.taken.items ≡ l.fn.self.taken.items;
  keeps : Keeps l.fn.self l.self;
}

abbrev pub decreases-loop-pair : goal.decreases-loop-pair
decreases-loop-pair l = length l.found.items
