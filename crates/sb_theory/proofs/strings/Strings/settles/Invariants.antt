use Rattle.sb_theory.proofs.Words.{◌-◌, Holds, Looks, Rises, number_at}
use Rattle.sb_theory.proofs.strings.Strings.settles.Given as goal

abbrev pub invariant-loop-serial : goal.invariant-loop-serial
invariant-loop-serial l = record {
  holds : Holds l.self;
  looks : Looks l.fn.self l.self;
  rises : Rises l.fn.self.fitting.items l.self.fitting.items;
}

abbrev pub decreases-loop-serial : goal.decreases-loop-serial
decreases-loop-serial l = l.long - number_at l.self.fitting.items l.serial.0
