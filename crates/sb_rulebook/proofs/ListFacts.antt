-- Lists of which each element passes a test, lists in which none stands twice, and a choice by the order of two numbers.
use Rattle.std.proofs.Common.{◌≡◌, ◌↔◌, ℕ, zero, suc, ◌+◌, Bool, true, false, cond, not, ◌&&◌, ◌||◌, List, [], ◌∷◌, ◌++◌, map, set, slice_get, Option, Some, None, is_some, unwrap_or, refl, sym, ap, ap₂, ◌∙◌, arith}
use Rattle.std.specs.List.{list_all, list_any, position_from, zip}
use Rattle.std.specs.Ordering.{match_ordering}
use Rattle.std.specs.declared.cmp.Ordering.TheVariants.{Less, Equal, Greater}
use Rattle.std.proofs.lemmas.Bool.{and_parts, and_from, or_parts, or_from, or_left, or_right, not-true, not_from_false, false≢true, true≢false}
use Rattle.std.proofs.lemmas.List.Folds.{list_all-append, list_any-append}
use Rattle.sb_rulebook.specs.KeptLaws.{are_distinct}

-- what the order of two numbers makes of three ways, by its tests
abbrev pub by_order : (b d : Bool) (first same later : List ℕ) → List ℕ
by_order b d first same later = match_ordering (cond b Less (cond d Equal Greater)) first same later

-- All pass.

pub all-cons : {A : Type 0} (test : A → Bool) (x : A) (xs : List A) → test x ≡ true → list_all test xs ≡ true
    → list_all test (x ∷ xs) ≡ true
all-cons test x xs first rest = and_from (test x) (list_all test xs) first rest

pub all-append : {A : Type 0} (test : A → Bool) (xs ys : List A) → list_all test xs ≡ true → list_all test ys ≡ true
    → list_all test (xs ++ ys) ≡ true
all-append test xs ys first second =
    list_all-append test xs ys ∙ and_from (list_all test xs) (list_all test ys) first second

pub all-push : {A : Type 0} (test : A → Bool) (xs : List A) (x : A) → list_all test xs ≡ true → test x ≡ true
    → list_all test (xs ++ x ∷ []) ≡ true
all-push test xs x first last = all-append test xs (x ∷ []) first (all-cons test x [] last refl)

pub all-map : {A B : Type 0} (test : B → Bool) (make : A → B) → ((x : A) → test (make x) ≡ true) → (xs : List A)
    → list_all test (map make xs) ≡ true
all-map test make passes [] = refl
all-map test make passes (x ∷ xs) = all-cons test (make x) (map make xs) (passes x) (all-map test make passes xs)

-- where each that passes one test is made into what passes another
pub all-made : {A B : Type 0} (p : A → Bool) (q : B → Bool) (make : A → B)
    → ((x : A) → p x ≡ true → q (make x) ≡ true) → (xs : List A) → list_all p xs ≡ true
    → list_all q (map make xs) ≡ true
all-made p q make passes [] all = refl
all-made p q make passes (x ∷ xs) all =
    let parts = and_parts (p x) (list_all p xs) all in
    all-cons q (make x) (map make xs) (passes x parts.0) (all-made p q make passes xs parts.1)

pub all-weaker : {A : Type 0} (p q : A → Bool) → ((x : A) → p x ≡ true → q x ≡ true) → (xs : List A)
    → list_all p xs ≡ true → list_all q xs ≡ true
all-weaker p q passes [] all = refl
all-weaker p q passes (x ∷ xs) all =
    let parts = and_parts (p x) (list_all p xs) all in
    all-cons q x xs (passes x parts.0) (all-weaker p q passes xs parts.1)

pub all-set : {A : Type 0} (test : A → Bool) (xs : List A) (i : ℕ) (x : A) → list_all test xs ≡ true → test x ≡ true
    → list_all test (set xs i x) ≡ true
all-set test [] i x all new = refl
all-set test (y ∷ ys) zero x all new = all-cons test x ys new (and_parts (test y) (list_all test ys) all).1
all-set test (y ∷ ys) (suc i) x all new =
    let parts = and_parts (test y) (list_all test ys) all in
    all-cons test y (set ys i x) parts.0 (all-set test ys i x parts.1 new)

-- Some passes.

pub any-at : {A : Type 0} (test : A → Bool) (xs : List A) (n : ℕ) (x : A) → slice_get xs n ≡ Some x → test x ≡ true
    → list_any test xs ≡ true
any-at test [] n x there passes = absurd (false≢true (ap is_some there))
any-at test (y ∷ ys) zero x there passes =
    or_left (test y) (list_any test ys) (ap test (same there) ∙ passes)
  where
    same : Some y ≡ Some x → y ≡ x
    same e = Prim.cc (e)
any-at test (y ∷ ys) (suc n) x there passes = or_right (test y) (list_any test ys) (any-at test ys n x there passes)

pub any-push : {A : Type 0} (test : A → Bool) (xs : List A) (x : A) → list_any test xs ≡ true
    → list_any test (xs ++ x ∷ []) ≡ true
any-push test xs x any = list_any-append test xs (x ∷ []) ∙ or_left (list_any test xs) (test x || false) any

-- The first place.

pub any-position : {A : Type 0} (test : A → Bool) (i : ℕ) (xs : List A)
    → list_any test xs ≡ is_some (position_from test i xs)
any-position test i [] = refl
any-position test i (x ∷ xs) = step (test x) (any-position test (i + 1) xs)
  where
    step : (b : Bool) → list_any test xs ≡ is_some (position_from test (i + 1) xs)
        → (b || list_any test xs) ≡ is_some (cond b (Some i) (position_from test (i + 1) xs))
    step true rest = refl
    step false rest = rest

-- what stands at a place
pub record IsPlace {A : Type 0} (test : A → Bool) (i n : ℕ) (xs : List A) : Type 0 where
  pub place : ℕ
  pub element : A
  pub behind : i + place ≡ n
  pub there : slice_get xs place ≡ Some element
  pub passes : test element ≡ true

pub position-place : {A : Type 0} (test : A → Bool) (i n : ℕ) (xs : List A) → position_from test i xs ≡ Some n
    → IsPlace test i n xs
position-place test i n [] h = absurd (false≢true (ap is_some h))
position-place {A} test i n (x ∷ xs) h = step (test x) refl h (position-place test (i + 1) n xs)
  where
    step : (b : Bool) → test x ≡ b → cond b (Some i) (position_from test (i + 1) xs) ≡ Some n
        → (position_from test (i + 1) xs ≡ Some n → IsPlace test (i + 1) n xs) → IsPlace test i n (x ∷ xs)
    step true is h rest =
        let same : i ≡ n = Prim.cc (h) in
        record { place = 0; element = x; behind = omega (arith, same); there = refl; passes = is }
    step false is h rest =
        let l = rest h in
        record {
          place = suc l.place;
          element = l.element;
          behind = omega (arith, l.behind);
          there = l.there;
          passes = l.passes;
        }

-- Distinct elements.

pub distinct-push : {A : Type 0} (same : A → A → Bool) (xs : List A) (x : A) → are_distinct same xs ≡ true
    → list_any (same x) xs ≡ false → are_distinct same (xs ++ x ∷ []) ≡ true
distinct-push same [] x once new = refl
distinct-push same (y ∷ ys) x once new =
    let parts = and_parts (not (list_any (λ z. same z y) ys)) (are_distinct same ys) once in
    let others = or_parts (same x y) (list_any (same x) ys) new in
    and_from (not (list_any (λ z. same z y) (ys ++ x ∷ []))) (are_distinct same (ys ++ x ∷ []))
    (not_from_false (list_any (λ z. same z y) (ys ++ x ∷ []))
    (list_any-append (λ z. same z y) ys (x ∷ [])
    ∙ or_from (list_any (λ z. same z y) ys) (same x y || false) (not-true (list_any (λ z. same z y) ys) parts.0)
    (or_from (same x y) false others.0 refl)))
    (distinct-push same ys x parts.1 others.1)

module _ {A : Type 0} (same : A → A → Bool) (itself : (x : A) → same x x ≡ true)
    (finds : (x y : A) → same x y ≡ true → x ≡ y) where
  -- none of the others is the same as the first
  none-later : (x : A) (ys : List A) → list_any (λ z. same z x) ys ≡ false → (n : ℕ) (z : A)
      → slice_get ys n ≡ Some z → same z x ≡ false
  none-later x ys none n z there = step (same z x) refl
    where
      step : (b : Bool) → same z x ≡ b → same z x ≡ false
      step true is = absurd (true≢false (sym (any-at (λ y. same y x) ys n z there is) ∙ none))
      step false is = is

  pub position-at : (xs : List A) (i n : ℕ) (x : A) → are_distinct same xs ≡ true → slice_get xs n ≡ Some x
      → position_from (same x) i xs ≡ Some (i + n)
  position-at [] i n x once there = absurd (false≢true (ap is_some there))
  position-at (y ∷ ys) i zero x once there =
      let here : y ≡ x = Prim.cc (there) in
      ap (λ b. cond b (Some i) (position_from (same x) (i + 1) ys)) (ap (same x) here ∙ itself x)
      ∙ ap Some (omega arith)
  position-at (y ∷ ys) i (suc n) x once there =
      let parts = and_parts (not (list_any (λ z. same z y) ys)) (are_distinct same ys) once in
      ap (λ b. cond b (Some i) (position_from (same x) (i + 1) ys))
      (none-later y ys (not-true (list_any (λ z. same z y) ys) parts.0) n x there)
      ∙ position-at ys (i + 1) n x parts.1 there ∙ ap Some (omega arith)

  -- a place is the number of what stands there alone
  pub place-by-element : (xs : List A) (x : A) (n : ℕ) → are_distinct same xs ≡ true
      → (position_from (same x) 0 xs ≡ Some n) ↔ (slice_get xs n ≡ Some x)
  place-by-element xs x n once = (from, λ there. position-at xs 0 n x once there ∙ ap Some (omega arith))
    where
      from : position_from (same x) 0 xs ≡ Some n → slice_get xs n ≡ Some x
      from h =
          let l = position-place (same x) 0 n xs h in
          let number : l.place ≡ n = omega (arith, l.behind) in
          ap (slice_get xs) (sym number) ∙ l.there ∙ ap Some (sym (finds x l.element l.passes))

  -- what is kept beside an element, looked for by the element
  beside : A → List A → List Bool → Bool
  beside x xs marks = list_any (λ p. p.1 && same x p.0) (zip xs marks)

  beside-none : (x : A) (ys : List A) (marks : List Bool) → list_any (same x) ys ≡ false
      → list_any (λ p. p.1 && same x p.0) (zip ys marks) ≡ false
  beside-none x [] marks none = refl
  beside-none x (y ∷ ys) [] none = refl
  beside-none x (y ∷ ys) (b ∷ marks) none =
      let parts = or_parts (same x y) (list_any (same x) ys) none in
      or_from (b && same x y) (list_any (λ p. p.1 && same x p.0) (zip ys marks)) (step b parts.0)
      (beside-none x ys marks parts.1)
    where
      step : (d : Bool) → same x y ≡ false → (d && same x y) ≡ false
      step true is = is
      step false is = refl

  -- where none of the others is the same as the first, the first is the same as none of them
  none-same : (x : A) (ys : List A) → list_any (λ z. same z x) ys ≡ false → list_any (same x) ys ≡ false
  none-same x [] none = refl
  none-same x (y ∷ ys) none =
      let parts = or_parts (same y x) (list_any (λ z. same z x) ys) none in
      or_from (same x y) (list_any (same x) ys) (step (same x y) refl parts.0) (none-same x ys parts.1)
    where
      step : (b : Bool) → same x y ≡ b → same y x ≡ false → b ≡ false
      step true is other =
          let here : x ≡ y = finds x y is in
          absurd (true≢false (sym (ap (same y) here ∙ itself y) ∙ other))
      step false is other = refl

  pub beside-at : (xs : List A) (marks : List Bool) (n : ℕ) (x : A) → are_distinct same xs ≡ true
      → slice_get xs n ≡ Some x
      → list_any (λ p. p.1 && same x p.0) (zip xs marks) ≡ unwrap_or (slice_get marks n) false
  beside-at [] marks n x once there = absurd (false≢true (ap is_some there))
  beside-at (y ∷ ys) [] n x once there = refl
  beside-at (y ∷ ys) (b ∷ marks) zero x once there =
      let here : y ≡ x = Prim.cc (there) in
      let parts = and_parts (not (list_any (λ z. same z y) ys)) (are_distinct same ys) once in
      let none = none-same y ys (not-true (list_any (λ z. same z y) ys) parts.0) in
      ap₂ (λ s t. (b && s) || t) (ap (same x) here ∙ itself x)
      (beside-none x ys marks (ap (λ z. list_any (same z) ys) (sym here) ∙ none)) ∙ step b
    where
      step : (d : Bool) → ((d && true) || false) ≡ d
      step true = refl
      step false = refl
  beside-at (y ∷ ys) (b ∷ marks) (suc n) x once there =
      let parts = and_parts (not (list_any (λ z. same z y) ys)) (are_distinct same ys) once in
      let apart = none-later y ys (not-true (list_any (λ z. same z y) ys) parts.0) n x there in
      ap (λ s. (b && s) || list_any (λ p. p.1 && same x p.0) (zip ys marks)) apart
      ∙ step b ∙ beside-at ys marks n x parts.1 there
    where
      step : (d : Bool) → ((d && false) || list_any (λ p. p.1 && same x p.0) (zip ys marks))
          ≡ list_any (λ p. p.1 && same x p.0) (zip ys marks)
      step true = refl
      step false = refl

  pub beside-position : (xs : List A) (marks : List Bool) (x : A) → are_distinct same xs ≡ true
      → list_any (λ p. p.1 && same x p.0) (zip xs marks)
      ≡ (elim (position_from (same x) 0 xs) as (λ _. Bool)
      [ None ↦ false | Some n ↦ unwrap_or (slice_get marks n) false ])
  beside-position xs marks x once = step (position_from (same x) 0 xs) refl
    where
      step : (o : Option ℕ) → position_from (same x) 0 xs ≡ o
          → list_any (λ p. p.1 && same x p.0) (zip xs marks)
          ≡ (elim o as (λ _. Bool) [ None ↦ false | Some n ↦ unwrap_or (slice_get marks n) false ])
      step None is = beside-none x xs marks (any-position (same x) 0 xs ∙ ap is_some is)
      step (Some n) is = beside-at xs marks n x once ((place-by-element xs x n once).0 is)
