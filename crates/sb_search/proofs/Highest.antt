-- The literals of the highest levels of a clause.
use Rattle.sb_search.proofs.Words.{◌≡◌, ℕ, ◌<◌, ◌≤◌, true, false, ◌||◌, ◌+◌, leb, length, take, get_or, List, [], ◌∷◌, ◌++◌, Option, Some, None, ◌∙◌, inl, inr, arith, list_all, cases_Bool, or_left, or_right, or_cases, leb-true, le-leb, take_more, all_weaker, all_push, Lit, is_same_literal, is_among, all_among, Assigned, false_from, IsHighest, IsSecond, leb-false, among_push, among_push_same, higher, is_but}

among_front : (ls : List Lit) (m l : Lit) → is_among ls l ≡ true → is_among (ls ++ m ∷ []) l ≡ true
among_front ls m l h = among_push ls m l ∙ or_left (is_among ls l) (is_same_literal m l || false) h

below_best : (entries : List Assigned) (but : Option Lit) (old new : ℕ) → old ≤ new → (l : Lit)
    → (is_but but l || leb (false_from entries l) old) ≡ true → (is_but but l || leb (false_from entries l) new) ≡ true
below_best entries but old new le l h =
    elim (or_cases (is_but but l) (leb (false_from entries l) old) h) [
      | inl is ↦ or_left (is_but but l) (leb (false_from entries l) new) is
      | inr low ↦ or_right (is_but but l) (leb (false_from entries l) new)
          (le-leb (false_from entries l) new (omega (arith, leb-true (false_from entries l) old low, le)))
    ]

-- the first one of a list
first_highest : (entries : List Assigned) (but : Option Lit) (ls : List Lit) (l : Lit) → is_but but l ≡ false
    → list_all (is_but but) ls ≡ true → IsHighest entries (ls ++ l ∷ []) but (Some l)
first_highest entries but ls l other h = (
  among_push_same ls l,
  other,
  all_push (λ m. is_but but m || leb (false_from entries m) (false_from entries l)) ls l
      (all_weaker (is_but but) (λ m. is_but but m || leb (false_from entries m) (false_from entries l))
      (λ m is. or_left (is_but but m) (leb (false_from entries m) (false_from entries l)) is) ls h)
      (or_right (is_but but l) (leb (false_from entries l) (false_from entries l))
      (le-leb (false_from entries l) (false_from entries l) (omega arith))),
)

-- one more literal
pub highest_more : (entries : List Assigned) (but best : Option Lit) (ls : List Lit) (l : Lit)
    → IsHighest entries ls but best → IsHighest entries (ls ++ l ∷ []) but (higher entries but best l)
highest_more entries but None ls l h =
    elim (cases_Bool (is_but but l)) [
      | inl is ↦ rw is (all_push (is_but but) ls l h is)
      | inr other ↦ rw other (first_highest entries but ls l other h)
    ]
highest_more entries but (Some m) ls l h =
    elim (cases_Bool (is_but but l)) [
      | inl is ↦ rw is (
        among_front ls l m h.0,
        h.1,
        all_push (λ x. is_but but x || leb (false_from entries x) (false_from entries m)) ls l h.2
            (or_left (is_but but l) (leb (false_from entries l) (false_from entries m)) is),
      )
      | inr other ↦ rw other (elim (cases_Bool (leb (false_from entries l) (false_from entries m))) [
        | inl low ↦ rw low (
          among_front ls l m h.0,
          h.1,
          all_push (λ x. is_but but x || leb (false_from entries x) (false_from entries m)) ls l h.2
              (or_right (is_but but l) (leb (false_from entries l) (false_from entries m)) low),
        )
        | inr high ↦ rw high (
          among_push_same ls l,
          other,
          all_push (λ x. is_but but x || leb (false_from entries x) (false_from entries l)) ls l
              (all_weaker (λ x. is_but but x || leb (false_from entries x) (false_from entries m))
              (λ x. is_but but x || leb (false_from entries x) (false_from entries l))
              (below_best entries but (false_from entries m) (false_from entries l)
              (omega (arith, leb-false (false_from entries l) (false_from entries m) high))) ls h.2)
              (or_right (is_but but l) (leb (false_from entries l) (false_from entries l))
              (le-leb (false_from entries l) (false_from entries l) (omega arith))),
        )
      ])
    ]

-- the level from which on the others are false
pub second_two : (entries : List Assigned) (clause : List Lit) (one other : Lit)
    → IsHighest entries clause None (Some one) → IsHighest entries clause (Some one) (Some other)
    → IsSecond entries clause one (false_from entries other)
second_two entries clause one other h k = record {
  there = h.0;
  second = λ _. (
    other,
    k.0,
    k.1,
    omega arith,
    leb-true (false_from entries other) (false_from entries one)
        (all_among (λ l. false || leb (false_from entries l) (false_from entries one)) clause other h.2 k.0),
  );
  others = k.2;
}

-- where there is no other literal
pub second_none : (entries : List Assigned) (clause : List Lit) (one : Lit) → IsHighest entries clause None (Some one)
    → IsHighest entries clause (Some one) None → IsSecond entries clause one 0
second_none entries clause one h k = record {
  there = h.0;
  second = λ above. absurd (omega (arith, above));
  others = all_weaker (λ l. is_same_literal l one) (λ l. is_same_literal l one || leb (false_from entries l) 0)
      (λ l is. or_left (is_same_literal l one) (leb (false_from entries l) 0) is) clause k;
}

-- a turn of the loop over the clause
pub highest_turn : (entries : List Assigned) (but best new : Option Lit) (ls : List Lit) (i : ℕ) (d : Lit)
    → i < length ls → IsHighest entries (take i ls) but best → new ≡ higher entries but best (get_or ls i d)
    → IsHighest entries (take (i + 1) ls) but new
highest_turn entries but best new ls i d within h e =
    rw (take_more ls i d within, e) (highest_more entries but best (take i ls) (get_or ls i d) h)
