-- What an accepted result comes from, test by test.
use Rattle.std.proofs.Common.{◌≡◌, Bool, true, false, if◌then◌else◌, Option, Some, None, Result, Ok, Err, refl}

module _ {A E : Type 0} where
  -- there is something, and it is accepted
  pub some_of : {X : Type 0} (o : Option X) (e : E) (f : X → Result A E) (y : A)
      → (elim o as (λ _. Result A E) [ None ↦ Err e | Some x ↦ f x ]) ≡ Ok y
      → (x : X) × (o ≡ Some x) × (f x ≡ Ok y)
  some_of None e f y h = absurd (Prim.cc (h))
  some_of (Some x) e f y h = (x, refl, h)

  pub if_so : (b : Bool) (e : E) (r : Result A E) (y : A) → (if b then r else Err e) ≡ Ok y
      → (b ≡ true) × (r ≡ Ok y)
  if_so true e r y h = (refl, h)
  if_so false e r y h = absurd (Prim.cc (h))

  pub if_not : (b : Bool) (e : E) (r : Result A E) (y : A) → (if b then Err e else r) ≡ Ok y
      → (b ≡ false) × (r ≡ Ok y)
  if_not true e r y h = absurd (Prim.cc (h))
  if_not false e r y h = (refl, h)

  pub same_ok : (x y : A) → ◌≡◌ {A = Result A E} (Ok x) (Ok y) → x ≡ y
  same_ok x y h = Prim.cc (h)
