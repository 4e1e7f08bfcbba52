-- What an accepted result comes from, test by test, and lists that grow behind their elements.
use Rattle.std.proofs.Common.{◌≡◌, ℕ, zero, suc, ◌<◌, Bool, true, false, if◌then◌else◌, List, [], ◌∷◌, ◌++◌, length, slice_get, Option, Some, None, Result, Ok, Err, refl, ◌∙◌, arith}
use Rattle.std.specs.List.{Contains}
use Rattle.sb_rulebook.specs.Refusals.{Refusal, unknown_id}
use Rattle.sb_rulebook.specs.Brought.{is_brought}
use Rattle.sb_rulebook.specs.Lines.{Line}
use Rattle.sb_rulebook.specs.Kept.{AllKept, Asked}
use Rattle.sb_rulebook.specs.Follows.{by_rule, not_brought, follows}
use Rattle.std.proofs.lemmas.Option.{slice_get_within, get_or_from_slice_get}

module _ {A E : Type 0} where
  -- there is something, and it is accepted
  pub some_of : {X : Type 0} (o : Option X) (e : E) (f : X → Result A E) (y : A)
      → (elim o as (λ _. Result A E) [ None ↦ Err e | Some x ↦ f x ]) ≡ Ok y
      → (x : X) × (o ≡ Some x) × (f x ≡ Ok y)
  some_of None e f y h = absurd (Prim.cc (h))
  some_of (Some x) e f y h = (x, refl, h)

  pub if_so : (b : Bool) (e : E) (r : Result A E) (y : A) → (if b then r else Err e) ≡ Ok y
      → (b ≡ true) × (r ≡ Ok y)
  if_so true e r y h = (refl, h)
  if_so false e r y h = absurd (Prim.cc (h))

  pub if_not : (b : Bool) (e : E) (r : Result A E) (y : A) → (if b then Err e else r) ≡ Ok y
      → (b ≡ false) × (r ≡ Ok y)
  if_not true e r y h = absurd (Prim.cc (h))
  if_not false e r y h = (refl, h)

  pub same_ok : (x y : A) → ◌≡◌ {A = Result A E} (Ok x) (Ok y) → x ≡ y
  same_ok x y h = Prim.cc (h)

module _ {X : Type 0} where
  pub slice_get-front : (xs ys : List X) (k : ℕ) → k < length xs → slice_get (xs ++ ys) k ≡ slice_get xs k
  slice_get-front [] ys k h = absurd (omega (arith, h))
  slice_get-front (x ∷ xs) ys zero h = refl
  slice_get-front (x ∷ xs) ys (suc k) h = slice_get-front xs ys k (omega (arith, h))

  pub slice_get-more : (xs ys : List X) (k : ℕ) (x : X) → slice_get xs k ≡ Some x → slice_get (xs ++ ys) k ≡ Some x
  slice_get-more xs ys k x h = slice_get-front xs ys k (slice_get_within xs k x h) ∙ h

  pub Contains-slice_get : (xs : List X) (k : ℕ) (x : X) → slice_get xs k ≡ Some x → Contains xs x
  Contains-slice_get xs k x h = (k, slice_get_within xs k x h, get_or_from_slice_get xs k x x h)

-- what follows is brought, and follows by its rule
never_brought : (r : Result AllKept Refusal) (after : AllKept) → not_brought r ≡ Ok after → ⊥
never_brought (Ok kept) after h = Prim.cc (h)
never_brought (Err unknown_id) after h = Prim.cc (h)
never_brought (Err _) after h = Prim.cc (h)

pub follows_by_rule : (asked : Asked) (kept after : AllKept) (line : Line) → follows asked kept line ≡ Ok after
    → by_rule asked kept line ≡ Ok after
follows_by_rule asked kept after line h = step (is_brought line) h
  where
    step : (b : Bool) → (if b then by_rule asked kept line else not_brought (by_rule asked kept line)) ≡ Ok after
        → by_rule asked kept line ≡ Ok after
    step true h = h
    step false h = absurd (never_brought (by_rule asked kept line) after h)
