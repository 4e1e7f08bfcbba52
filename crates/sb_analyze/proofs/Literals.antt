-- Literals in lists.
use Rattle.std.proofs.Common.{◌≡◌, ◌+◌, false, cond, List, [], ◌∷◌, ◌++◌, refl, sym, ◌∙◌, inl, inr, arith}
use Rattle.std.specs.List.{count_by}
use Rattle.std.proofs.lemmas.Bool.{false≢true, or_left, cases_Bool}
use Rattle.std.proofs.lemmas.List.Sums.{sum_by-append}
use Rattle.sb_lit.specs.declared.clause.Lit.{Lit}
use Rattle.sb_lit.specs.Clauses.{is_same_literal, is_among}
use Rattle.sb_lit.proofs.CallerLemmas.{is_same_literal-true, is_same_literal-beq}
use Rattle.sb_analyze.specs.Assumed.{are_equal}
use Rattle.sb_analyze.specs.Explained.{AreDistinctLiterals}

-- literals that are distinct
count_none : (ls : List Lit) (l : Lit) → is_among ls l ≡ false → count_by (λ m. is_same_literal m l) ls ≡ 0
count_none [] l h = refl
count_none (m ∷ ms) l h =
    elim (cases_Bool (is_same_literal m l)) [
      | inl same ↦ absurd (false≢true (sym h ∙ or_left (is_same_literal m l) (is_among ms l) same))
      | inr other ↦
          let rest : is_among ms l ≡ false = rw other at h in
          rw other (count_none ms l rest)
    ]

-- one more literal that is not there
pub AreDistinctLiterals-push : (ls : List Lit) (m : Lit) → AreDistinctLiterals ls → is_among ls m ≡ false
    → AreDistinctLiterals (ls ++ m ∷ [])
AreDistinctLiterals-push ls m h new l =
    let count : count_by (λ x. is_same_literal x l) (ls ++ m ∷ [])
    ≡ count_by (λ x. is_same_literal x l) ls + count_by (λ x. is_same_literal x l) (m ∷ []) =
    sum_by-append (λ x. cond (is_same_literal x l) 1 0) ls (m ∷ []) in
    elim (cases_Bool (is_same_literal m l)) [
      | inl same ↦
          let none : count_by (λ x. is_same_literal x l) ls ≡ 0 =
          count_none ls l (rw (is_same_literal-true m l same) at new) in
          let one : count_by (λ x. is_same_literal x l) (m ∷ []) ≡ 1 = rw same refl in
          omega (arith, count, none, one)
      | inr other ↦
          let zero' : count_by (λ x. is_same_literal x l) (m ∷ []) ≡ 0 = rw other refl in
          omega (arith, count, zero', h l)
    ]

pub are_equal-same : (l m : Lit) → are_equal l m ≡ is_same_literal l m
are_equal-same l m = is_same_literal-beq l m
