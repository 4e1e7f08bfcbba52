-- Under the truth values of a search, with what is assumed to be true, the assumptions hold.
use Rattle.sb_prover.proofs.Words.{◌≡◌, ℕ, Bool, true, false, ◌&&◌, ◌||◌, ◌==◌, List, [], ◌∷◌, ◌++◌, map, inl, inr, refl, sym, ap, ◌∙◌, and_from, and_parts, eq-eqb, eqb-true, false_from_ne_true, false≢true, or_cases, or_left, or_right, list_all, list_any, list_any-append, all_contained, all_from, any_of, assumed_holds, AreTruthsOf, Assumption, Serial, Sort, all_hold, are_assumed, assumed, assumption_holds, assumption_there, boolean, holds, is_assumed, is_listed, is_of, is_one_of, is_same_truth, make_true, occurs, truth_in, value_there, values_at}
use Rattle.std.proofs.Math.Bool.{and-false, and-true, or-false, or_assoc}

-- Truth values.

-- what is assumed to be true has that value
pub assumed_true : (truths : List Bool) (given : List Assumption) (n : ℕ) → make_true truths given ≡ true
    → is_assumed given n ≡ true → truth_in truths n ≡ true
assumed_true truths [] n h any = absurd (false≢true any)
assumed_true truths (a ∷ given) n h any =
    let parts = and_parts (is_same_truth (truth_in truths a.0) a.1) (make_true truths given) h in
    elim (or_cases ((a.0 == n) && a.1) (is_assumed given n) any) [
      | inl here ↦
          let both = and_parts (a.0 == n) a.1 here in
          ap (truth_in truths) (sym (eqb-true a.0 n both.0)) ∙ so (truth_in truths a.0) a.1 both.1 parts.0
      | inr later ↦ assumed_true truths given n parts.1 later
    ]
  where
    so : (b p : Bool) → p ≡ true → is_same_truth b p ≡ true → b ≡ true
    so true p positive same = refl
    so false true positive same = absurd (false≢true same)
    so false false positive same = absurd (false≢true positive)

pub with_assumed : (t given : Bool) → (given ≡ true → t ≡ true) → (t || given) ≡ t
with_assumed true given h = refl
with_assumed false true h = absurd (false≢true (h refl))
with_assumed false false h = refl

-- of a constant that is listed or not, has a truth value, is assumed to be true or not, and of what an assumption says
one_made : (listed t given p : Bool) → is_same_truth t p ≡ true → (given ≡ true → t ≡ true)
    → (p ≡ true → given ≡ true) → is_same_truth ((listed && t) || given) p ≡ true
one_made true true given true h found among = refl
one_made true true given false h found among = absurd (false≢true h)
one_made true false given true h found among = absurd (false≢true h)
one_made true false true false h found among = absurd (false≢true (found refl))
one_made true false false false h found among = refl
one_made false true true true h found among = refl
one_made false true false true h found among = absurd (false≢true (among refl))
one_made false true given false h found among = absurd (false≢true h)
one_made false false given true h found among = absurd (false≢true h)
one_made false false true false h found among = absurd (false≢true (found refl))
one_made false false false false h found among = refl

pub others_make : (serials : List Serial) (given : List Assumption) (truths others : List Bool)
    → AreTruthsOf serials given truths others → make_true truths given ≡ true → make_true others given ≡ true
others_make serials given truths others are h =
    all_from (λ a. is_same_truth (truth_in others a.0) a.1) given
    (λ a among.
    ap (λ t. is_same_truth t a.1) (are a.0)
    ∙ one_made (is_listed serials a.0) (truth_in truths a.0) (is_assumed given a.0) a.1
    (all_contained (λ b. is_same_truth (truth_in truths b.0) b.1) given a h among) (assumed_true truths given a.0 h)
    (λ positive. any_of (λ b. (b.0 == a.0) && b.1) given a among
    (and_from (a.0 == a.0) a.1 (eq-eqb a.0 a.0 refl) positive)))

-- Truth values that are written.

-- a constant that is not assumed to be true stays, and one that is is made so
pub not_more : (t here positive : Bool) → positive ≡ false → t ≡ (t || (here && positive))
not_more t here positive none =
    sym (ap (λ b. t || (here && b)) none ∙ ap (λ b. t || b) (and-false here) ∙ or-false t)

pub one_more : (t here positive : Bool) → positive ≡ true → (t || here) ≡ (t || (here && positive))
one_more t here positive is = ap (λ b. t || b) (sym (ap (λ b. here && b) is ∙ and-true here))

pub none_assumed : (truths : List Bool) (n : ℕ) → truth_in truths n ≡ (truth_in truths n || is_assumed [] n)
none_assumed truths n = sym (or-false (truth_in truths n))

pub more_assumed : (given : List Assumption) (a : Assumption) (old mid new : List Bool)
    → ((n : ℕ) → truth_in mid n ≡ (truth_in old n || is_assumed given n))
    → ((n : ℕ) → truth_in new n ≡ (truth_in mid n || ((a.0 == n) && a.1))) → (n : ℕ)
    → truth_in new n ≡ (truth_in old n || is_assumed (given ++ a ∷ []) n)
more_assumed given a old mid new h one n =
    let here = (a.0 == n) && a.1 in
    one n
    ∙ ap (λ b. b || here) (h n)
    ∙ or_assoc (truth_in old n) (is_assumed given n) here
    ∙ ap (λ b. truth_in old n || b)
    (sym (list_any-append (λ b. (b.0 == n) && b.1) given (a ∷ []) ∙ ap (λ b. is_assumed given n || b) (or-false here)))

-- Values.

pub assumed_hold : (cs : List (ℕ × Sort)) (words : List (List ℕ)) (others : List Bool) (given : List Assumption)
    → are_assumed cs given ≡ true → make_true others given ≡ true
    → list_all (assumption_holds (values_at cs words others)) given ≡ true
assumed_hold cs words others [] live h = refl
assumed_hold cs words others (a ∷ given) live h =
    let v = values_at cs words others in
    let p = and_parts (is_one_of cs a.0 boolean) (are_assumed cs given) live in
    let q = and_parts (is_same_truth (truth_in others a.0) a.1) (make_true others given) h in
    and_from (assumption_holds v a) (list_all (assumption_holds v) given)
    (assumption_there cs words others a p.0 ∙ q.0) (assumed_hold cs words others given p.1 q.1)

-- so do they as terms
pub terms_hold : (cs : List (ℕ × Sort)) (words : List (List ℕ)) (others : List Bool) (given : List Assumption)
    → are_assumed cs given ≡ true → make_true others given ≡ true
    → all_hold (map assumed given) (values_at cs words others) ≡ true
terms_hold cs words others [] live h = refl
terms_hold cs words others (a ∷ given) live h =
    let v = values_at cs words others in
    let p = and_parts (is_one_of cs a.0 boolean) (are_assumed cs given) live in
    let q = and_parts (is_same_truth (truth_in others a.0) a.1) (make_true others given) h in
    and_from (holds (assumed a) v) (all_hold (map assumed given) v)
    (assumed_holds v a (ap (is_of boolean) (value_there cs words others a.0 boolean p.0))
    ∙ assumption_there cs words others a p.0 ∙ q.0)
    (terms_hold cs words others given p.1 q.1)

-- Constants that occur in no assumption.

assumed_occurs : (given : List Assumption) (n : ℕ) → is_assumed given n ≡ true
    → list_any (occurs n) (map assumed given) ≡ true
assumed_occurs [] n any = absurd (false≢true any)
assumed_occurs ((m, true) ∷ given) n any = elim (or_cases ((m == n) && true) (is_assumed given n) any) [
  | inl here ↦ or_left (n == m) (list_any (occurs n) (map assumed given))
      (eq-eqb n m (sym (eqb-true m n (and_parts (m == n) true here).0)))
  | inr later ↦ or_right (n == m) (list_any (occurs n) (map assumed given)) (assumed_occurs given n later)
]
assumed_occurs ((m, false) ∷ given) n any = elim (or_cases ((m == n) && false) (is_assumed given n) any) [
  | inl here ↦ absurd (false≢true (and_parts (m == n) false here).1)
  | inr later ↦ or_right (occurs n (assumed (m, false))) (list_any (occurs n) (map assumed given))
      (assumed_occurs given n later)
]

pub not_assumed : (given : List Assumption) (n : ℕ) → list_any (occurs n) (map assumed given) ≡ false
    → is_assumed given n ≡ false
not_assumed given n none =
    false_from_ne_true (is_assumed given n) (λ yes_here. false≢true (sym none ∙ assumed_occurs given n yes_here))
