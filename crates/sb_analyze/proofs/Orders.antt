-- Literals in order.
use Rattle.std.proofs.Common.{◌≡◌, ℕ, suc, ◌<◌, Bool, true, false, ltb, subst, List, [], ◌∷◌, length, get_or, refl, sym, ◌∙◌, ap, add-one, inl, inr, arith}
use Rattle.std.specs.Ordering.{is_lt, bool_cmp}
use Rattle.std.specs.List.Sorted.{IsPermutation, IsSorted}
use Rattle.std.proofs.lemmas.Bool.{false≢true, cases_order, and_from, lt-ltb, le-ltb, eq-eqb}
use Rattle.std.proofs.lemmas.List.Sums.{sum_by-cons}
use Rattle.std.proofs.lemmas.List.Sorted.{sum_by-IsPermutation}
use Rattle.sb_lit.specs.declared.clause.Lit.{Lit}
use Rattle.sb_lit.specs.Clauses.{is_same_literal, literal_order, are_ascending}
use Rattle.sb_analyze.specs.Explained.{AreDistinctLiterals}
use Rattle.sb_analyze.proofs.Entries.{one_if}
use Rattle.sb_lit.proofs.CallerLemmas.{is_same_literal-self, is_same_literal-of, literal_of_parts}

by_sign : (p q : Bool) → (p ≡ q → ⊥) → is_lt (bool_cmp p q) ≡ false → is_lt (bool_cmp q p) ≡ true
by_sign true true other h = absurd (other refl)
by_sign true false other h = refl
by_sign false true other h = absurd (false≢true (sym h))
by_sign false false other h = absurd (other refl)

at_one_atom : (a : ℕ) (p q : Bool)
    → (◌≡◌ {A = Lit} (record { atom = a; positive = p }) (record { atom = a; positive = q }) → ⊥)
    → is_lt (literal_order (record { atom = a; positive = q }) (record { atom = a; positive = p })) ≡ false
    → is_lt (literal_order (record { atom = a; positive = p }) (record { atom = a; positive = q })) ≡ true
at_one_atom a p q other h =
    let not_below : ltb a a ≡ false = le-ltb a a (omega arith) in
    let sign : is_lt (bool_cmp p q) ≡ false = rw (not_below, eq-eqb a a refl) at h in
    rw (not_below, eq-eqb a a refl) (by_sign p q (λ same. other (literal_of_parts a a p q refl same)) sign)

-- of two literals one is before the other
before : (a b : ℕ) (p q : Bool)
    → (◌≡◌ {A = Lit} (record { atom = a; positive = p }) (record { atom = b; positive = q }) → ⊥)
    → is_lt (literal_order (record { atom = b; positive = q }) (record { atom = a; positive = p })) ≡ false
    → is_lt (literal_order (record { atom = a; positive = p }) (record { atom = b; positive = q })) ≡ true
before a b p q other h =
    elim (cases_order a b) [
      | inl same ↦ subst (λ (n : ℕ).
          ((◌≡◌ {A = Lit} (record { atom = a; positive = p }) (record { atom = n; positive = q }) → ⊥)
          → is_lt (literal_order (record { atom = n; positive = q }) (record { atom = a; positive = p })) ≡ false
          → is_lt (literal_order (record { atom = a; positive = p }) (record { atom = n; positive = q })) ≡ true)) same
          (at_one_atom a p q) other h
      | inr apart ↦ elim apart [
        | inl below ↦ rw (lt-ltb a b below) refl
        | inr above ↦ absurd (false≢true (sym h ∙ rw (lt-ltb b a above) refl))
      ]
    ]

tail_distinct : (l : Lit) (ls : List Lit) → AreDistinctLiterals (l ∷ ls) → AreDistinctLiterals ls
tail_distinct l ls h m = omega (arith, h m, sum_by-cons (λ x. one_if (is_same_literal x m)) l ls)

first_apart : (l m : Lit) (ls : List Lit) → AreDistinctLiterals (l ∷ m ∷ ls) → l ≡ m → ⊥
first_apart l m ls h same =
    let one : one_if (is_same_literal l m) ≡ 1 = ap one_if (is_same_literal-of l m same) in
    let two : one_if (is_same_literal m m) ≡ 1 = ap one_if (is_same_literal-self m) in
    absurd (omega (
      arith,
      h m,
      sum_by-cons (λ x. one_if (is_same_literal x m)) l (m ∷ ls),
      sum_by-cons (λ x. one_if (is_same_literal x m)) m ls,
      one,
      two,
    ))

ascending_from : (ls : List Lit) → AreDistinctLiterals ls
    → ((k : ℕ) (d : Lit) → suc k < length ls → is_lt (literal_order (get_or ls (suc k) d) (get_or ls k d)) ≡ false)
    → are_ascending ls ≡ true
ascending_from [] h sorted = refl
ascending_from (l ∷ []) h sorted = refl
ascending_from (l ∷ m ∷ ls) h sorted =
    and_from (is_lt (literal_order l m)) (are_ascending (m ∷ ls))
    (before l.atom m.atom l.positive m.positive (first_apart l m ls h) (sorted 0 l (omega arith)))
    (ascending_from (m ∷ ls) (tail_distinct l (m ∷ ls) h) (λ k d within. sorted (suc k) d (omega arith)))

pub AreDistinctLiterals-permutation : (xs ys : List Lit) → IsPermutation xs ys → AreDistinctLiterals xs
    → AreDistinctLiterals ys
AreDistinctLiterals-permutation xs ys perm h l =
    omega (arith, h l, sum_by-IsPermutation (λ m. one_if (is_same_literal m l)) xs ys perm)

-- literals that are sorted, of which none is repeated
pub ascending_from_sort : (xs ys : List Lit) → IsPermutation xs ys → IsSorted literal_order ys → AreDistinctLiterals xs
    → are_ascending ys ≡ true
ascending_from_sort xs ys perm sorted h =
    ascending_from ys (AreDistinctLiterals-permutation xs ys perm h)
    (λ k d within. rw (← add-one k) (sorted k d (omega arith) (omega arith)))
