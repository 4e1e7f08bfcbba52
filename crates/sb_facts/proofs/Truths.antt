-- Truth values.
use Rattle.std.proofs.Common.{◌≡◌, Bool, true, false, ◌&&◌, ◌||◌, refl}
use Rattle.std.proofs.lemmas.Bool.{false≢true}

pub or_swap : (a b c : Bool) → (a || (b || c)) ≡ (b || (a || c))
or_swap true true c = refl
or_swap true false c = refl
or_swap false b c = refl

pub never_both : (b : Bool) → (b && false) ≡ true → ⊥
never_both true h = false≢true h
never_both false h = false≢true h
