-- A dead regex, found by its number in the arena.
use Rattle.std.proofs.Common.{◌≡◌, ℕ, suc, ◌+◌, ◌<◌, Bool, true, false, cond, ◌||◌, ◌&&◌, nat_eq, List, [], ◌∷◌, length, Option, Some, None, refl, sym, ap, ap₂, subst, ◌∙◌, arith}
use Rattle.std.specs.List.{list_any, position, position_from, zip, IsDistinct, AllByRecursion}
use Rattle.std.proofs.lemmas.Iterator.Adapters.{position_from-zero}
use Rattle.std.proofs.lemmas.Map.Keys.{IsDistinct-head, IsDistinct-tail}
use Rattle.sb_lang.specs.Regex.{Regex}
use Rattle.sb_lang.specs.Order.{regex_eq}
use Rattle.sb_lang.specs.OrderLaws.{OrderTellsApart}
use Rattle.sb_regex.specs.Numbered.{regex_at, regexes_at, AllNumbers, AreDistinct}
use Rattle.sb_regex.proofs.CallerLemmas.{extends_same, names_from}
use Rattle.sb_rulebook.specs.Kept.{AllKept}
use Rattle.sb_rulebook.specs.Splits.{is_dead_regex}
use Rattle.sb_rules.specs.Known.{Known, with_known}
use Rattle.sb_rules.specs.Burying.{is_dead_by, has_dead}
use Rattle.sb_rules.proofs.Judged.{nat-same, same-at}

abbrev found_by : (ℕ → Bool) → Option ℕ → Bool
found_by f o = elim o as (λ _. Bool) [ None ↦ false | Some n ↦ f n ]

and-no : (d : Bool) → (d && false) ≡ false
and-no true = refl
and-no false = refl

and-yes-or-no : (d : Bool) → ((d && true) || false) ≡ d
and-yes-or-no true = refl
and-yes-or-no false = refl

-- the mark beside a number
module _ (id : ℕ) where
  abbrev beside : List ℕ → List Bool → Bool
  beside order dead = list_any (λ p. p.1 && nat_eq id p.0) (zip order dead)

  beside-nil : (order : List ℕ) → beside order [] ≡ false
  beside-nil [] = refl
  beside-nil (x ∷ xs) = refl

  beside-none : (order : List ℕ) (dead : List Bool) → AllByRecursion (λ y. nat_eq id y ≡ false) order
      → beside order dead ≡ false
  beside-none [] dead h = refl
  beside-none (x ∷ xs) [] h = refl
  beside-none (x ∷ xs) (b ∷ bs) h = ap₂ ◌||◌ (ap (λ t. b && t) h.0 ∙ and-no b) (beside-none xs bs h.1)

  others-apart : (x : ℕ) (xs : List ℕ) → nat_eq id x ≡ true → IsDistinct nat_eq (x ∷ xs)
      → AllByRecursion (λ y. nat_eq id y ≡ false) xs
  others-apart x xs e d =
      subst (λ z. AllByRecursion (λ y. nat_eq z y ≡ false) xs) (sym (nat-same id x e)) (IsDistinct-head nat_eq x xs d)

  beside-is : (order : List ℕ) (dead : List Bool) (f : ℕ → Bool) (i : ℕ) → IsDistinct nat_eq order
      → ((k : ℕ) → f (i + k) ≡ is_dead_by dead k)
      → beside order dead ≡ found_by f (position_from (nat_eq id) i order)
  beside-is [] dead f i d h = refl
  beside-is (x ∷ xs) [] f i d h =
      step (nat_eq id x)
      (sym (beside-nil xs)
      ∙ beside-is xs [] f (i + 1) (IsDistinct-tail nat_eq x xs d) (λ k. ap f (omega arith) ∙ h (suc k)))
    where
      step : (t : Bool) → false ≡ found_by f (position_from (nat_eq id) (i + 1) xs)
          → false ≡ found_by f (cond t (Some i) (position_from (nat_eq id) (i + 1) xs))
      step true later = sym (h 0) ∙ ap f (omega arith)
      step false later = later
  beside-is (x ∷ xs) (b ∷ bs) f i d h =
      step (nat_eq id x) refl
      (beside-is xs bs f (i + 1) (IsDistinct-tail nat_eq x xs d) (λ k. ap f (omega arith) ∙ h (suc k)))
    where
      step : (t : Bool) → nat_eq id x ≡ t
          → beside xs bs ≡ found_by f (position_from (nat_eq id) (i + 1) xs)
          → ((b && t) || beside xs bs) ≡ found_by f (cond t (Some i) (position_from (nat_eq id) (i + 1) xs))
      step true e later =
          ap (λ o. (b && true) || o) (beside-none xs bs (others-apart x xs e d))
          ∙ and-yes-or-no b ∙ sym (h 0) ∙ ap f (omega arith)
      step false e later = ap (λ o. o || beside xs bs) (and-no b) ∙ later

  pub beside-dead : (order : List ℕ) (dead : List Bool) → IsDistinct nat_eq order
      → beside order dead ≡ found_by (is_dead_by dead) (position (nat_eq id) order)
  beside-dead order dead d =
      beside-is order dead (is_dead_by dead) 0 d (λ k. ap (is_dead_by dead) (omega arith))
      ∙ ap (found_by (is_dead_by dead)) (sym (position_from-zero (nat_eq id) order))

module _ (rs : List Regex) (id : ℕ) (apart : OrderTellsApart) (once : AreDistinct rs) (within : id < length rs) where
  same-beside : (order : List ℕ) (dead : List Bool) → AllNumbers rs order
      → beside id order dead ≡ list_any (λ p. p.1 && regex_eq (regex_at rs id) p.0) (zip (regexes_at rs order) dead)
  same-beside [] dead all = refl
  same-beside (n ∷ ns) [] all = refl
  same-beside (n ∷ ns) (b ∷ bs) all =
      ap₂ (λ s t. (b && s) || t)
      (sym (same-at rs rs (regex_at rs id) id apart once (extends_same rs)
      (names_from rs id (regex_at rs id) within refl) n (all 0 0 (omega arith))))
      (same-beside ns bs (λ k d l. all (suc k) d (omega (arith, l))))

  pub dead-by-number : (known : Known) (kept : AllKept) → AllNumbers rs known.order → IsDistinct nat_eq known.order
      → has_dead known id ≡ is_dead_regex (with_known rs known kept) (regex_at rs id)
  dead-by-number known kept all distinct =
      sym (beside-dead id known.order known.dead distinct) ∙ same-beside known.order known.dead all
