use Rattle.sb_theory.proofs.Words.{◌-◌, ◌≡◌, Holds, Looks, number_at}
use Rattle.sb_theory.proofs.strings.Strings.clashing_front.Given as goal

abbrev pub invariant-loop-long : goal.invariant-loop-long
invariant-loop-long l = record {
  holds : Holds l.self;
  looks : Looks l.fn.self l.self;
  fits : number_at l.self.fitting.items l.serial.0 ≡ l.long;
}

abbrev pub decreases-loop-long : goal.decreases-loop-long
decreases-loop-long l = l.whole - l.long
