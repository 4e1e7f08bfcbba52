-- Assumptions and live assertions are true as terms where they are true by the rules of proofs.
use Rattle.std.proofs.Common.{◌≡◌, ℕ, ◌+◌, Bool, true, false, ◌&&◌, List, [], ◌∷◌, ◌++◌, map, length, slice_get, Option, Some, None, option_map, inl, inr, ◌⊎◌, refl, sym, subst, ap, ◌∙◌}
use Rattle.std.specs.List.{list_all, Contains}
use Rattle.std.proofs.lemmas.Bool.{and_parts, false≢true}
use Rattle.std.proofs.lemmas.List.{map-append}
use Rattle.std.proofs.lemmas.List.Folds.{list_all-append, list_all-map}
use Rattle.std.proofs.lemmas.Option.{slice_get-map}
use Rattle.sb_meaning.specs.Terms.{Sort, Term, boolean}
use Rattle.sb_meaning.specs.Terms as symbol
use Rattle.sb_meaning.specs.Values.{Value, Valuation, Text, Int, Truth, value_in, is_of}
use Rattle.sb_meaning.specs.Truth.{meaning_of_value, truth_in, all_true, applied, holds, all_hold}
use Rattle.sb_script.specs.State.{Assertion, asserted, a_mark, Assumption, assumed, Level, over_levels, terms_in}
use Rattle.sb_rulebook.specs.Verdicts.{is_same_truth, assumption_holds, assertion_holds}
use Rattle.sb_rulebook.specs.Accepted.{term_of, at_level, live_by_level}
use Rattle.sb_sound.specs.TermLaws.{HasSorts}
use Rattle.sb_sound.specs.SoundLaws.{PlacesHold}
use Rattle.sb_sound.specs.TruthLaws.{terms_at}
use Rattle.sb_sound.proofs.PassFacts.{all_weaker, Contains-cases, Contains-none}
use Rattle.sb_sound.specs.ScriptLaws.{assumption_fits}
use Rattle.sb_sound.proofs.FittingValues.{declared_there}

-- Terms that are all true.

pub hold_both : (ts us : List Term) (v : Valuation) → all_hold (ts ++ us) v ≡ (all_hold ts v && all_hold us v)
hold_both ts us v = list_all-append (λ t. holds t v) ts us

-- Assumptions.

abbrev truth_of : Value → Bool
truth_of x = elim x [ Text w ↦ false | Int n ↦ false | Truth b ↦ b ]

as_true : (x : Value) → is_of boolean x ≡ true
    → all_true (truth_in (meaning_of_value x)) ≡ is_same_truth (truth_of x) true
as_true (Truth true) h = refl
as_true (Truth false) h = refl
as_true (Text w) h = absurd (false≢true h)
as_true (Int n) h = absurd (false≢true h)

as_false : (x : Value) → is_of boolean x ≡ true
    → all_true (truth_in (applied symbol.core_not (meaning_of_value x ∷ []))) ≡ is_same_truth (truth_of x) false
as_false (Truth true) h = refl
as_false (Truth false) h = refl
as_false (Text w) h = absurd (false≢true h)
as_false (Int n) h = absurd (false≢true h)

pub assumed_holds : (v : Valuation) (a : Assumption) → is_of boolean (value_in v a.0 boolean) ≡ true
    → holds (assumed a) v ≡ assumption_holds v a
assumed_holds v (serial, true) h = as_true (value_in v serial boolean) h
assumed_holds v (serial, false) h = as_false (value_in v serial boolean) h

pub given_hold : (v : Valuation) (sorts : List Sort) → HasSorts v sorts → (given : List Assumption)
    → list_all (assumption_fits sorts) given ≡ true
    → all_hold (map assumed given) v ≡ list_all (assumption_holds v) given
given_hold v sorts has [] h = refl
given_hold v sorts has (a ∷ given) h =
    let parts = and_parts (assumption_fits sorts a) (list_all (assumption_fits sorts) given) h in
    let here = has a.0 boolean (declared_there sorts boolean a.0 parts.0) in
    ap (λ b. b && all_hold (map assumed given) v) (assumed_holds v a here)
    ∙ ap (λ b. assumption_holds v a && b) (given_hold v sorts has given parts.1)

-- Live assertions.

level_same : (n : ℕ) (xs : List Assertion) → map (λ (a : Option Term × ℕ). a.0) (at_level n xs) ≡ map term_of xs
level_same n [] = refl
level_same n (x ∷ xs) = ap (λ os. term_of x ∷ os) (level_same n xs)

pub live_same : (first : Level) (levels : List Level)
    → map (λ (a : Option Term × ℕ). a.0) (live_by_level first levels)
    ≡ map term_of (over_levels (λ l. l.assertions) first levels)
live_same first [] = level_same 0 first.assertions
live_same first (level ∷ levels) =
    let own = at_level (length levels + 1) level.assertions in
    let below = over_levels (λ (l : Level). l.assertions) first levels in
    map-append (λ (a : Option Term × ℕ). a.0) (live_by_level first levels) own
    ∙ ap (λ os. os ++ map (λ (a : Option Term × ℕ). a.0) own) (live_same first levels)
    ∙ ap (λ os. map term_of below ++ os) (level_same (length levels + 1) level.assertions)
    ∙ sym (map-append term_of below level.assertions)

-- a mark says nothing here
abbrev pub unless_mark : Valuation → Option Term → Bool
unless_mark v None = true
unless_mark v (Some t) = holds t v

terms_hold : (v : Valuation) (xs : List Assertion)
    → list_all (unless_mark v) (map term_of xs) ≡ all_hold (terms_in xs) v
terms_hold v [] = refl
terms_hold v (asserted t ∷ xs) = ap (λ b. holds t v && b) (terms_hold v xs)
terms_hold v (a_mark ∷ xs) = terms_hold v xs

pub live_hold : (v : Valuation) (first : Level) (levels : List Level)
    → list_all (λ (a : Option Term × ℕ). unless_mark v a.0) (live_by_level first levels)
    ≡ all_hold (terms_in (over_levels (λ l. l.assertions) first levels)) v
live_hold v first levels =
    sym (list_all-map (unless_mark v) (λ (a : Option Term × ℕ). a.0) (live_by_level first levels))
    ∙ ap (list_all (unless_mark v)) (live_same first levels)
    ∙ terms_hold v (over_levels (λ l. l.assertions) first levels)

marks_left_out : (v : Valuation) (o : Option Term) → assertion_holds v o ≡ true → unless_mark v o ≡ true
marks_left_out v None h = refl
marks_left_out v (Some t) h = h

pub asserted_hold : (v : Valuation) (first : Level) (levels : List Level)
    → list_all (λ (a : Option Term × ℕ). assertion_holds v a.0) (live_by_level first levels) ≡ true
    → all_hold (terms_in (over_levels (λ l. l.assertions) first levels)) v ≡ true
asserted_hold v first levels h =
    sym (live_hold v first levels)
    ∙ all_weaker (λ (a : Option Term × ℕ). assertion_holds v a.0) (λ (a : Option Term × ℕ). unless_mark v a.0)
    (live_by_level first levels) (λ a. marks_left_out v a.0) h

-- Live assertions at some places.

place_holds : (v : Valuation) (xs : List Assertion) (places : List ℕ) → all_hold (terms_at xs places) v ≡ true
    → (place : ℕ) → Contains places place → (t : Term) → slice_get xs place ≡ Some (asserted t) → holds t v ≡ true
place_holds v xs [] h place among t there = absurd (Contains-none place among)
place_holds v xs (first ∷ places) h place among t there =
    step (slice_get xs first) refl h (Contains-cases first places place among)
    (λ rest later. place_holds v xs places rest place later t there)
  where
    step : (o : Option Assertion) → slice_get xs first ≡ o → all_hold (elim o as (λ _. List Term) [
      | Some (asserted t) ↦ t ∷ terms_at xs places
      | Some a_mark ↦ terms_at xs places
      | None ↦ terms_at xs places
    ]) v ≡ true → (first ≡ place) ⊎ Contains places place
        → (all_hold (terms_at xs places) v ≡ true → Contains places place → holds t v ≡ true) → holds t v ≡ true
    step (Some (asserted u)) at h (inl same) rest =
        let one : u ≡ t = Prim.cc (same, at, there) in
        subst (λ (k : Term). holds k v ≡ true) one (and_parts (holds u v) (all_hold (terms_at xs places) v) h).0
    step (Some (asserted u)) at h (inr later) rest =
        rest (and_parts (holds u v) (all_hold (terms_at xs places) v) h).1 later
    step (Some a_mark) at h (inl same) rest = absurd (Prim.cc (same, at, there))
    step (Some a_mark) at h (inr later) rest = rest h later
    step None at h (inl same) rest = absurd (Prim.cc (same, at, there))
    step None at h (inr later) rest = rest h later

-- what stands among the live assertions with their levels stands among those without
at_place : (first : Level) (levels : List Level) (place : ℕ) (a : Option Term × ℕ) (t : Term)
    → slice_get (live_by_level first levels) place ≡ Some a → a.0 ≡ Some t
    → slice_get (over_levels (λ l. l.assertions) first levels) place ≡ Some (asserted t)
at_place first levels place a t there is =
    let xs = over_levels (λ (l : Level). l.assertions) first levels in
    step (slice_get xs place)
    (sym (slice_get-map term_of xs place)
    ∙ ap (λ os. slice_get os place) (sym (live_same first levels))
    ∙ slice_get-map (λ (b : Option Term × ℕ). b.0) (live_by_level first levels) place
    ∙ ap (option_map (λ (b : Option Term × ℕ). b.0)) there
    ∙ ap Some is)
  where
    step : (o : Option Assertion) → option_map term_of o ≡ Some (Some t) → o ≡ Some (asserted t)
    step None h = absurd (Prim.cc (h))
    step (Some a_mark) h = absurd (Prim.cc (h))
    step (Some (asserted u)) h = let same : u ≡ t = Prim.cc (h) in cc

pub places_hold : (v : Valuation) (first : Level) (levels : List Level) (places : List ℕ)
    → all_hold (terms_at (over_levels (λ l. l.assertions) first levels) places) v ≡ true
    → PlacesHold v (live_by_level first levels) places
places_hold v first levels places h place a t among there is =
    place_holds v (over_levels (λ l. l.assertions) first levels) places h place among t
    (at_place first levels place a t there is)
