-- Laws of tests that are joined by and and or, beside those of std.
use Rattle.std.proofs.Common.{◌≡◌, Bool, true, false, ◌&&◌, ◌||◌, refl}

pub or_swap : (x y z : Bool) → (x || (y || z)) ≡ (y || (x || z))
or_swap true true z = refl
or_swap true false z = refl
or_swap false y z = refl

pub and_swap : (x y z : Bool) → (x && (y && z)) ≡ (y && (x && z))
and_swap true y z = refl
and_swap false true z = refl
and_swap false false z = refl

pub and-or_same : (x b : Bool) → (b && (x || b)) ≡ b
and-or_same true true = refl
and-or_same false true = refl
and-or_same x false = refl

pub and-false_or : (x y : Bool) → ((x && false) || y) ≡ y
and-false_or true y = refl
and-false_or false y = refl
