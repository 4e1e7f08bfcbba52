-- What a filter leaves of assumptions that stand once each are some of all assumptions, each once.
use Rattle.std.proofs.Common.{◌≡◌, Bool, true, false, not, ◌&&◌, ◌||◌, ◌==◌, if◌then◌else◌, List, [], ◌∷◌, filter, cond, inl, inr, refl, sym, subst, ap, ◌∙◌}
use Rattle.std.specs.List.{list_all, list_any}
use Rattle.std.proofs.lemmas.Bool.{and_parts, and_from, or_cases, or_left, or_right, false≢true, eqb-true, eq-eqb}
use Rattle.sb_script.specs.State.{Assumption}
use Rattle.sb_script.specs.Verdicts.{is_same_assumption, each_once, are_some_of}
use Rattle.sb_sound.proofs.PassFacts.{list_any-from_filter, all_filter}

same_itself : (a : Assumption) → is_same_assumption a a ≡ true
same_itself (serial, true) = and_from (serial == serial) true (eq-eqb serial serial refl) refl
same_itself (serial, false) = and_from (serial == serial) true (eq-eqb serial serial refl) refl

same_assumption : (a b : Assumption) → is_same_assumption a b ≡ true → a ≡ b
same_assumption (m, true) (n, true) h = let same : m ≡ n = eqb-true m n (and_parts (m == n) true h).0 in cc
same_assumption (m, true) (n, false) h = absurd (false≢true (and_parts (m == n) false h).1)
same_assumption (m, false) (n, true) h = absurd (false≢true (and_parts (m == n) false h).1)
same_assumption (m, false) (n, false) h = let same : m ≡ n = eqb-true m n (and_parts (m == n) true h).0 in cc

-- those that are not the same as one
abbrev others_than : Assumption → List Assumption → List Assumption
others_than a bs = filter (λ b. not (is_same_assumption a b)) bs

-- another one in front of those among which they stand
some_behind : (b : Assumption) (xs bs : List Assumption) → list_any (is_same_assumption b) xs ≡ false
    → are_some_of xs bs ≡ true → are_some_of xs (b ∷ bs) ≡ true
some_behind b [] bs other h = refl
some_behind b (a ∷ xs) bs other h = step (is_same_assumption a b) refl
  where
    step : (c : Bool) → is_same_assumption a b ≡ c
        → (if c then not (list_any (is_same_assumption a) xs) && are_some_of xs bs else are_some_of (a ∷ xs) bs) ≡ true
    step false is = h
    step true is =
        let here : is_same_assumption b a ≡ true =
        subst (λ (d : Assumption). is_same_assumption b d ≡ true) (sym (same_assumption a b is)) (same_itself b) in
        absurd (false≢true
        (sym other ∙ or_left (is_same_assumption b a) (list_any (is_same_assumption b) xs) here))

none_in_filter : {X : Type 0} → (p q : X → Bool) (xs : List X) → list_any p xs ≡ false
    → list_any p (filter q xs) ≡ false
none_in_filter p q xs none = step (list_any p (filter q xs)) refl
  where
    step : (b : Bool) → list_any p (filter q xs) ≡ b → b ≡ false
    step false is = refl
    step true is = absurd (false≢true (sym none ∙ list_any-from_filter q p xs is))

none_same : (test : Assumption → Bool) (xs : List Assumption)
    → list_any test (filter (λ a. not (test a)) xs) ≡ false
none_same test [] = refl
none_same test (x ∷ xs) = step (test x) refl (none_same test xs)
  where
    step : (b : Bool) → test x ≡ b → list_any test (filter (λ a. not (test a)) xs) ≡ false
        → list_any test (cond (not b) (x ∷ filter (λ a. not (test a)) xs) (filter (λ a. not (test a)) xs)) ≡ false
    step true is rest = rest
    step false is rest = ap (λ b. b || list_any test (filter (λ a. not (test a)) xs)) is ∙ rest

pub filter_twice : (p q : Assumption → Bool) (xs : List Assumption)
    → filter p (filter q xs) ≡ filter (λ a. q a && p a) xs
filter_twice p q [] = refl
filter_twice p q (x ∷ xs) = step (q x) (filter_twice p q xs)
  where
    step : (b : Bool) → filter p (filter q xs) ≡ filter (λ a. q a && p a) xs
        → filter p (cond b (x ∷ filter q xs) (filter q xs))
        ≡ cond (b && p x) (x ∷ filter (λ a. q a && p a) xs) (filter (λ a. q a && p a) xs)
    step true rest = ap (λ ys. cond (p x) (x ∷ ys) ys) rest
    step false rest = rest

pub some_once : (q : Assumption → Bool) (given : List Assumption)
    → are_some_of (filter q (each_once given)) given ≡ true
some_once q [] = refl
some_once q (a ∷ given) =
    step (q a)
    (none_in_filter (is_same_assumption a) q (others_than a (each_once given))
    (none_same (is_same_assumption a) (each_once given)))
    (ap (λ xs. are_some_of xs given) (filter_twice q (λ b. not (is_same_assumption a b)) (each_once given))
    ∙ some_once (λ b. not (is_same_assumption a b) && q b) given)
  where
    step : (c : Bool) → list_any (is_same_assumption a) (filter q (others_than a (each_once given))) ≡ false
        → are_some_of (filter q (others_than a (each_once given))) given ≡ true
        → are_some_of
        (cond c (a ∷ filter q (others_than a (each_once given))) (filter q (others_than a (each_once given))))
        (a ∷ given) ≡ true
    step false none rest = some_behind a (filter q (others_than a (each_once given))) given none rest
    step true none rest =
        let left = filter q (others_than a (each_once given)) in
        ap (λ c. if c then not (list_any (is_same_assumption a) left) && are_some_of left given
        else are_some_of (a ∷ left) given) (same_itself a)
        ∙ and_from (not (list_any (is_same_assumption a) left)) (are_some_of left given) (ap not none) rest

-- A test that one of all assumptions passes, or all do, is passed by one of those that stand once each, or by all.

any_other : (test : Assumption → Bool) (a : Assumption) (xs : List Assumption) → list_any test xs ≡ true
    → (test a || list_any test (others_than a xs)) ≡ true
any_other test a [] any = absurd (false≢true any)
any_other test a (b ∷ xs) any = elim (or_cases (test b) (list_any test xs) any) [
  | inl here ↦ first (is_same_assumption a b) refl here
  | inr later ↦ more (is_same_assumption a b) (any_other test a xs later)
]
  where
    first : (c : Bool) → is_same_assumption a b ≡ c → test b ≡ true
        → (test a || list_any test (cond (not c) (b ∷ others_than a xs) (others_than a xs))) ≡ true
    first true is here =
        or_left (test a) (list_any test (others_than a xs))
        (subst (λ (d : Assumption). test d ≡ true) (sym (same_assumption a b is)) here)
    first false is here =
        or_right (test a) (test b || list_any test (others_than a xs))
        (or_left (test b) (list_any test (others_than a xs)) here)

    more : (c : Bool) → (test a || list_any test (others_than a xs)) ≡ true
        → (test a || list_any test (cond (not c) (b ∷ others_than a xs) (others_than a xs))) ≡ true
    more true rest = rest
    more false rest = elim (or_cases (test a) (list_any test (others_than a xs)) rest) [
      | inl here ↦ or_left (test a) (test b || list_any test (others_than a xs)) here
      | inr later ↦ or_right (test a) (test b || list_any test (others_than a xs))
          (or_right (test b) (list_any test (others_than a xs)) later)
    ]

pub any_once : (test : Assumption → Bool) (given : List Assumption) → list_any test given ≡ true
    → list_any test (each_once given) ≡ true
any_once test [] any = any
any_once test (a ∷ given) any = elim (or_cases (test a) (list_any test given) any) [
  | inl here ↦ or_left (test a) (list_any test (others_than a (each_once given))) here
  | inr later ↦ any_other test a (each_once given) (any_once test given later)
]

pub all_once : (test : Assumption → Bool) (given : List Assumption) → list_all test given ≡ true
    → list_all test (each_once given) ≡ true
all_once test [] all = refl
all_once test (a ∷ given) all =
    let parts = and_parts (test a) (list_all test given) all in
    and_from (test a) (list_all test (others_than a (each_once given))) parts.0
    (all_filter test (λ b. not (is_same_assumption a b)) (each_once given) (all_once test given parts.1))
