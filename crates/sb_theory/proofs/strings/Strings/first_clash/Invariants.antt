use Rattle.sb_theory.proofs.Words.{◌-◌, ◌≡◌, length, take, true, ℕ, Holds, IsWhole, Looks, is_in}
use Rattle.sb_theory.proofs.strings.Strings.first_clash.Given as goal

abbrev pub invariant-loop-place : goal.invariant-loop-place
invariant-loop-place l = record {
  holds : Holds l.self;
  looks : Looks l.fn.self l.self;
  whole : (y : ℕ) → is_in (take l.place l.self.changed) y ≡ true → IsWhole l.self.members.items l.self.fitting.items y;
}

abbrev pub decreases-loop-place : goal.decreases-loop-place
decreases-loop-place l = length l.fn.self.changed - l.place
