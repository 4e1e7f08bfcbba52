-- The first assertion outside the fragment, among all of them.
use Rattle.std.proofs.Common.{◌≡◌, ℕ, zero, suc, ◌+◌, ◌<◌, Bool, true, false, not, ◌&&◌, ◌||◌, List, [], ◌∷◌, ◌++◌, length}
use Rattle.std.proofs.Common.{get_or, map, take, refl, sym, ap, ap₂, ◌∙◌, arith}
use Rattle.std.specs.List.{list_all, list_any}
use Rattle.std.specs.Prelude.{Option, Some, None}
use Rattle.std.proofs.lemmas.Bool.{and_parts, and_from, and_right, or_right}
use Rattle.std.proofs.lemmas.List.{take_more}
use Rattle.sb_meaning.specs.Terms.{Term}
use Rattle.sb_script.specs.Brought.{is_structure}
use Rattle.sb_script.specs.Rules.{each_once, keeps, one_ground}
use Rattle.sb_script.specs.State.{Assertion, asserted}
use Rattle.sb_term.specs.declared.assertion.Assertion as code
use Rattle.sb_fragment.specs.declared.measure.Measure.{Measure}
use Rattle.sb_fragment.specs.declared.rules.Reason.{Reason}
use Rattle.sb_fragment.specs.declared.rules.Reason.TheVariants.{NotBrought, TooLarge}
use Rattle.sb_fragment.specs.Measures.{IsMeasure}
use Rattle.sb_script.specs.Fragment.{fits, is_decided}
use Rattle.sb_fragment.specs.Rules.{assertion_in, is_broken, keeps_both, IsBrokenBy}

inside_more : (live : List Assertion) (a : Assertion) → list_all is_decided live ≡ true → is_decided a ≡ true
    → list_all is_decided (live ++ a ∷ []) ≡ true
inside_more [] a h k = ap (λ b. b && true) k
inside_more (x ∷ xs) a h k = let parts = and_parts (is_decided x) (list_all is_decided xs) h in
    and_from (is_decided x) (list_all is_decided (xs ++ a ∷ [])) parts.0 (inside_more xs a parts.1 k)

map_push : (ts : List Term) (live : List code.Assertion) (a : code.Assertion)
    → map (assertion_in ts) (live ++ a ∷ []) ≡ map (assertion_in ts) live ++ assertion_in ts a ∷ []
map_push ts [] a = refl
map_push ts (x ∷ xs) a = ap (λ ys. assertion_in ts x ∷ ys) (map_push ts xs a)

pub one_more : (ts : List Term) (live : List code.Assertion) (k : ℕ) (a : code.Assertion) (found : Option Reason)
    → k < length live → a ≡ get_or live k a → found ≡ None → IsBrokenBy (assertion_in ts a) found
    → list_all is_decided (map (assertion_in ts) (take k live)) ≡ true
    → list_all is_decided (map (assertion_in ts) (take (k + 1) live)) ≡ true
one_more ts live k a found l is none h before =
    ap (λ xs. list_all is_decided (map (assertion_in ts) xs))
    (take_more live k a l ∙ ap (λ x. take k live ++ x ∷ []) (sym is))
    ∙ ap (list_all is_decided) (map_push ts (take k live) a)
    ∙ inside_more (map (assertion_in ts) (take k live)) (assertion_in ts a) before (rw none at h)

outside_at : (ts : List Term) (live : List code.Assertion) (k : ℕ) (a : code.Assertion) (reason : Reason)
    → k < length live → a ≡ get_or live k a → IsBrokenBy (assertion_in ts a) (Some reason)
    → (list_all is_decided (map (assertion_in ts) live) ≡ false)
    × (list_any (is_broken reason) (map (assertion_in ts) live) ≡ true)
outside_at ts [] k a reason l is h = absurd (omega arith)
outside_at ts (x ∷ xs) zero a reason l is h = (
  ap (λ y. is_decided (assertion_in ts y) && list_all is_decided (map (assertion_in ts) xs)) (sym is)
      ∙ ap (λ b. b && list_all is_decided (map (assertion_in ts) xs)) h.0,
  ap (λ y. is_broken reason (assertion_in ts y) || list_any (is_broken reason) (map (assertion_in ts) xs)) (sym is)
      ∙ ap (λ b. b || list_any (is_broken reason) (map (assertion_in ts) xs)) h.1,
)
outside_at ts (x ∷ xs) (suc k) a reason l is h = let rest = outside_at ts xs k a reason (omega arith) is h in
    (and_right _ _ rest.0, or_right _ _ rest.1)

pub one_outside : (ts : List Term) (live : List code.Assertion) (k : ℕ) (a : code.Assertion) (found : Option Reason)
    (reason : Reason) → k < length live → a ≡ get_or live k a → found ≡ Some reason
    → IsBrokenBy (assertion_in ts a) found
    → (list_all is_decided (map (assertion_in ts) live) ≡ false)
    × (list_any (is_broken reason) (map (assertion_in ts) live) ≡ true)
one_outside ts live k a found reason l is e h = outside_at ts live k a reason l is (rw e at h)

-- Which rule a term breaks.

pub breaks : (kept keeps : Bool) → kept ≡ keeps → kept ≡ false → not keeps ≡ true
breaks kept keeps e h = ap not (sym e ∙ h)

pub keeps_both_by : (t : Term) (once ground_side : Bool) → once ≡ keeps each_once t → once ≡ true
    → ground_side ≡ keeps one_ground t → ground_side ≡ true → keeps_both t ≡ true
keeps_both_by t once ground_side e h f k =
    ap₂ (λ a b. not (not a) && not (not b)) (sym e ∙ h) (sym f ∙ k)

pub is_too_large : (t : Term) (m : Measure) → IsMeasure t m → m.is_structure ≡ true
    → is_decided (asserted t) ≡ false → keeps_both t ≡ true → is_broken TooLarge (asserted t) ≡ true
is_too_large t m h brought outside kept =
    let inside = sym h.structure ∙ brought in
    and_from (is_structure t && not (fits t)) (keeps_both t)
    (and_from (is_structure t) (not (fits t)) inside (ap not (ap (λ b. b && fits t) (sym inside) ∙ outside))) kept

pub is_not_brought : (t : Term) (m : Measure) → IsMeasure t m → m.is_structure ≡ false → keeps_both t ≡ true
    → is_broken NotBrought (asserted t) ≡ true
is_not_brought t m h other kept =
    and_from (not (is_structure t)) (keeps_both t) (ap not (sym h.structure ∙ other)) kept
