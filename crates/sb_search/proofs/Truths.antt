-- Literals that stay true where a trail grows, and decisions that are assumptions.
use Rattle.sb_search.proofs.Words.{◌≡◌, ℕ, true, ◌||◌, leb, List, [], ◌∷◌, ◌++◌, sym, ◌∙◌, inl, inr, false≢true, cases_Bool, or_left, or_right, or_cases, all_weaker, Lit, is_same_literal, is_among, is_true_under, Kept, Assigned, held, up_to, AreAssumed, are_true, AreForced}

-- what is true on a front of a trail
pub true_front : (xs ys : List Assigned) (l : Lit) → is_true_under (held xs) l ≡ true
    → is_true_under (held (xs ++ ys)) l ≡ true
true_front [] ys l h = absurd (false≢true h)
true_front (x ∷ xs) ys l h =
    elim (or_cases (is_same_literal x.literal l) (is_among (held xs) l) h) [
      | inl here ↦ or_left (is_same_literal x.literal l) (is_among (held (xs ++ ys)) l) here
      | inr later ↦ or_right (is_same_literal x.literal l) (is_among (held (xs ++ ys)) l) (true_front xs ys l later)
    ]

-- what is true up to a level
pub true_up_to : (level : ℕ) (es : List Assigned) (l : Lit) → is_true_under (held (up_to level es)) l ≡ true
    → is_true_under (held es) l ≡ true
true_up_to level [] l h = absurd (false≢true h)
true_up_to level (e ∷ es) l h =
    elim (cases_Bool (leb e.level level)) [
      | inl low ↦
          let there : (is_same_literal e.literal l || is_among (held (up_to level es)) l) ≡ true = rw low at h in
          elim (or_cases (is_same_literal e.literal l) (is_among (held (up_to level es)) l) there) [
            | inl here ↦ or_left (is_same_literal e.literal l) (is_among (held es) l) here
            | inr later ↦ or_right (is_same_literal e.literal l) (is_among (held es) l) (true_up_to level es l later)
          ]
      | inr high ↦
          let there : is_among (held (up_to level es)) l ≡ true = rw high at h in
          or_right (is_same_literal e.literal l) (is_among (held es) l) (true_up_to level es l there)
    ]

pub all_true : (old new : List Lit) (ls : List Lit)
    → ((l : Lit) → is_true_under old l ≡ true → is_true_under new l ≡ true)
    → are_true old ls ≡ true → are_true new ls ≡ true
all_true old new ls f h = all_weaker (is_true_under old) (is_true_under new) f ls h

-- decisions that are assumptions
pub assumed_append : (assumptions : List Lit) (xs ys : List Assigned) → AreAssumed assumptions xs
    → AreAssumed assumptions ys → AreAssumed assumptions (xs ++ ys)
assumed_append assumptions [] ys h k = k
assumed_append assumptions (x ∷ xs) ys h k = (h.0, assumed_append assumptions xs ys h.1 k)

pub assumed_up_to : (assumptions : List Lit) (level : ℕ) (es : List Assigned) → AreAssumed assumptions es
    → AreAssumed assumptions (up_to level es)
assumed_up_to assumptions level [] h = tt
assumed_up_to assumptions level (e ∷ es) h =
    elim (cases_Bool (leb e.level level)) [
      | inl low ↦ rw low (h.0, assumed_up_to assumptions level es h.1)
      | inr high ↦ rw high (assumed_up_to assumptions level es h.1)
    ]

pub assumed_forced : (assumptions : List Lit) (kept : Kept) (before xs : List Assigned) → AreForced kept before xs
    → AreAssumed assumptions xs
assumed_forced assumptions kept before [] h = tt
assumed_forced assumptions kept before (x ∷ xs) h =
    (λ none. absurd (Prim.cc (sym none ∙ h.0.reason)), assumed_forced assumptions kept (before ++ x ∷ []) xs h.1)
