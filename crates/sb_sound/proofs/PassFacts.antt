-- Tests that elements of a list pass.
use Rattle.std.proofs.Common.{◌≡◌, ℕ, suc, zero, ◌<◌, Bool, true, false, cond, ◌||◌, List, [], ◌∷◌, ◌++◌, length, get_or, filter, refl, ap, ◌∙◌, ◌⊎◌, inl, inr, sym, arith}
use Rattle.std.specs.List.{list_all, list_any, Contains}
use Rattle.std.proofs.lemmas.Bool.{and_parts, and_from, and_left, and_right, or_left, or_right, or_cases, false≢true}

module _ {X : Type 0} (p q : X → Bool) where
  -- where all pass one test and some passes the other, some element passes both
  pub both_pass : (xs : List X) → list_all p xs ≡ true → list_any q xs ≡ true
      → (x : X) × (p x ≡ true) × (q x ≡ true)
  both_pass [] all any = absurd (false≢true any)
  both_pass (x ∷ xs) all any =
      let parts = and_parts (p x) (list_all p xs) all in
      elim (or_cases (q x) (list_any q xs) any)
      [ inl here ↦ (x, parts.0, here) | inr later ↦ both_pass xs parts.1 later ]

  -- where some passes the first test, and what passes it fails the second, not all pass the second
  pub one_fails : (xs : List X) → list_any p xs ≡ true → ((x : X) → p x ≡ true → q x ≡ false) → list_all q xs ≡ false
  one_fails [] any fails = absurd (false≢true any)
  one_fails (x ∷ xs) any fails = elim (or_cases (p x) (list_any p xs) any) [
    | inl here ↦ and_left (q x) (list_all q xs) (fails x here)
    | inr later ↦ and_right (q x) (list_all q xs) (one_fails xs later fails)
  ]

  -- what passes the first test is left by a filter that lets through all that passes the second
  pub list_any-filter : (xs : List X) → ((x : X) → q x ≡ true → p x ≡ true) → list_any q xs ≡ true
      → list_any q (filter p xs) ≡ true
  list_any-filter [] lets any = any
  list_any-filter (x ∷ xs) lets any = elim (or_cases (q x) (list_any q xs) any) [
    | inl here ↦ ap (λ b. list_any q (cond b (x ∷ filter p xs) (filter p xs))) (lets x here)
        ∙ or_left (q x) (list_any q (filter p xs)) here
    | inr later ↦ more (p x) (list_any-filter xs lets later)
  ]
    where
      more : (b : Bool) → list_any q (filter p xs) ≡ true → list_any q (cond b (x ∷ filter p xs) (filter p xs)) ≡ true
      more true rest = or_right (q x) (list_any q (filter p xs)) rest
      more false rest = rest

  pub list_any-from_filter : (xs : List X) → list_any q (filter p xs) ≡ true → list_any q xs ≡ true
  list_any-from_filter [] any = any
  list_any-from_filter (x ∷ xs) any = more (p x) (list_any-from_filter xs) any
    where
      more : (b : Bool) → (list_any q (filter p xs) ≡ true → list_any q xs ≡ true)
          → list_any q (cond b (x ∷ filter p xs) (filter p xs)) ≡ true → (q x || list_any q xs) ≡ true
      more true rest any = elim (or_cases (q x) (list_any q (filter p xs)) any) [
        | inl here ↦ or_left (q x) (list_any q xs) here
        | inr later ↦ or_right (q x) (list_any q xs) (rest later)
      ]
      more false rest any = or_right (q x) (list_any q xs) (rest any)

-- where all elements pass

pub all_weaker : {A : Type 0} → (p q : A → Bool) (xs : List A) → ((x : A) → p x ≡ true → q x ≡ true)
    → list_all p xs ≡ true → list_all q xs ≡ true
all_weaker p q [] f h = refl
all_weaker p q (x ∷ xs) f h =
    let parts = and_parts (p x) (list_all p xs) h in
    and_from (q x) (list_all q xs) (f x parts.0) (all_weaker p q xs f parts.1)

pub all_append : {A : Type 0} → (p : A → Bool) (xs ys : List A) → list_all p xs ≡ true → list_all p ys ≡ true
    → list_all p (xs ++ ys) ≡ true
all_append p [] ys h k = k
all_append p (x ∷ xs) ys h k =
    let parts = and_parts (p x) (list_all p xs) h in
    and_from (p x) (list_all p (xs ++ ys)) parts.0 (all_append p xs ys parts.1 k)

pub all_push : {A : Type 0} → (p : A → Bool) (xs : List A) (x : A) → list_all p xs ≡ true → p x ≡ true
    → list_all p (xs ++ x ∷ []) ≡ true
all_push p xs x h k = all_append p xs (x ∷ []) h (and_from (p x) true k refl)

pub all_filter : {A : Type 0} → (p q : A → Bool) (xs : List A) → list_all p xs ≡ true
    → list_all p (filter q xs) ≡ true
all_filter p q [] h = refl
all_filter p q (x ∷ xs) h =
    let parts = and_parts (p x) (list_all p xs) h in step (q x) parts.0 (all_filter p q xs parts.1)
  where
    step : (b : Bool) → p x ≡ true → list_all p (filter q xs) ≡ true
        → list_all p (cond b (x ∷ filter q xs) (filter q xs)) ≡ true
    step true here rest = and_from (p x) (list_all p (filter q xs)) here rest
    step false here rest = rest

-- an element is the first one or one of the others
pub Contains-cases : {X : Type 0} → (x : X) (xs : List X) (y : X) → Contains (x ∷ xs) y → (x ≡ y) ⊎ Contains xs y
Contains-cases x xs y h = at h.0 h.1 h.2
  where
    at : (k : ℕ) → k < length (x ∷ xs) → get_or (x ∷ xs) k y ≡ y → (x ≡ y) ⊎ Contains xs y
    at zero within is = inl is
    at (suc k) within is = inr (k, omega (arith, within), is)

pub Contains-first : {X : Type 0} → (x : X) (xs : List X) → Contains (x ∷ xs) x
Contains-first x xs = (0, omega arith, refl)

pub Contains-later : {X : Type 0} → (x : X) (xs : List X) (y : X) → Contains xs y → Contains (x ∷ xs) y
Contains-later x xs y h = (suc h.0, omega (arith, h.1), h.2)

pub Contains-none : {X : Type 0} → (y : X) → Contains [] y → ⊥
Contains-none y h = omega (arith, h.1)

pub all_contained : {X : Type 0} → (p : X → Bool) (xs : List X) (x : X) → list_all p xs ≡ true → Contains xs x
    → p x ≡ true
all_contained p [] x all among = absurd (Contains-none x among)
all_contained p (y ∷ ys) x all among =
    let parts = and_parts (p y) (list_all p ys) all in
    elim (Contains-cases y ys x among)
    [ inl here ↦ ap p (sym here) ∙ parts.0 | inr later ↦ all_contained p ys x parts.1 later ]

-- an element that passes the test
pub record Found {X : Type 0} (test : X → Bool) (xs : List X) : Type 0 where
  pub element : X
  pub within : Contains xs element
  pub passes : test element ≡ true

pub find_any : {X : Type 0} → (test : X → Bool) (xs : List X) → list_any test xs ≡ true → Found test xs
find_any test [] any = absurd (false≢true any)
find_any test (x ∷ xs) any = elim (or_cases (test x) (list_any test xs) any) [
  | inl here ↦ record { element = x; within = Contains-first x xs; passes = here }
  | inr later ↦
      let f = find_any test xs later in
      record { element = f.element; within = Contains-later x xs f.element f.within; passes = f.passes }
]

-- one that passes, of a list
pub any_of : {X : Type 0} → (test : X → Bool) (xs : List X) (x : X) → Contains xs x → test x ≡ true
    → list_any test xs ≡ true
any_of test [] x within h = absurd (Contains-none x within)
any_of test (y ∷ xs) x within h = elim (Contains-cases y xs x within) [
  | inl here ↦ or_left (test y) (list_any test xs) (ap test here ∙ h)
  | inr later ↦ or_right (test y) (list_any test xs) (any_of test xs x later h)
]

-- all pass where each does
pub all_from : {X : Type 0} → (test : X → Bool) (xs : List X) → ((x : X) → Contains xs x → test x ≡ true)
    → list_all test xs ≡ true
all_from test [] h = refl
all_from test (y ∷ xs) h =
    and_from (test y) (list_all test xs) (h y (Contains-first y xs))
    (all_from test xs (λ x within. h x (Contains-later y xs x within)))
