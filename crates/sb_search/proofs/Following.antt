-- What is kept follows from what was kept before.
use Rattle.sb_search.proofs.Words.{◌≡◌, ℕ, suc, zero, ◌≤◌, ◌⊎◌, ltb, Bool, true, false, not, ◌||◌, List, [], ◌∷◌, ◌++◌, map, Option, Some, None, refl, sym, subst, ◌∙◌, inl, inr, arith, not-not, list_all, and_parts, and_from, or_cases, false≢true, false_from_ne_true, cases_Bool, ltb-true, ltb-false, Lit, negation, is_among, KeptClause, Kept, kept_at, all_among, among_negated, are_negated, FollowsByLevel, with_lemma, Entails, LessonsFollow, not-true, stays_up_to, kept_up_to, IsKeptCore, LearnedHolds, LearnedHasLevels, literal_holds, clause_holds, place_holds, all_hold, Follows, AreRefuted}

-- a clause of a level up to this one
holds_at : (values : ℕ → Bool) (kept : Kept) (bound id : ℕ) (clause : KeptClause)
    → all_hold values (kept_up_to bound kept) ≡ true → kept_at kept id ≡ Some clause → clause.level ≤ bound → clause_holds values clause.literals ≡ true
holds_at values [] bound id clause all there low = absurd (Prim.cc (there))
holds_at values (None ∷ ks) bound zero clause all there low = absurd (Prim.cc (there))
holds_at values (Some k ∷ ks) bound zero clause all there low = step (cases_Bool (ltb bound clause.level)) at
  where
    at : all_hold values (kept_up_to bound (Some clause ∷ ks)) ≡ true
    at = subst (λ (x : Option KeptClause). all_hold values (kept_up_to bound (x ∷ ks)) ≡ true) there all

    step : (ltb bound clause.level ≡ true) ⊎ (ltb bound clause.level ≡ false)
        → all_hold values (kept_up_to bound (Some clause ∷ ks)) ≡ true → clause_holds values clause.literals ≡ true
    step (inl high) h = absurd (omega (arith, ltb-true bound clause.level high, low))
    step (inr under) h = (and_parts (clause_holds values clause.literals) (all_hold values (kept_up_to bound ks))
        (rw under at h)).0
holds_at values (k ∷ ks) bound (suc id) clause all there low = holds_at values ks bound id clause (rest k all) there low
  where
    rest : (k : Option KeptClause) → all_hold values (kept_up_to bound (k ∷ ks)) ≡ true
        → all_hold values (kept_up_to bound ks) ≡ true
    rest k h = (and_parts _ (all_hold values (kept_up_to bound ks)) h).1

-- of a literal and its negation one is true
negation_holds : (values : ℕ → Bool) (l : Lit) → literal_holds values (negation l) ≡ not (literal_holds values l)
negation_holds values l = sign l.atom l.positive
  where
    sign : (a : ℕ) (b : Bool) → literal_holds values (negation (record { atom = a; positive = b }))
        ≡ not (literal_holds values (record { atom = a; positive = b }))
    sign a true = refl
    sign a false = sym (not-not (values a))

-- one more clause
holds_more : (values : ℕ → Bool) (bound : ℕ) (kept : Kept) (k : KeptClause)
    → (k.level ≤ bound → clause_holds values k.literals ≡ true) → all_hold values (kept_up_to bound kept) ≡ true
    → all_hold values (kept_up_to bound (kept ++ Some k ∷ [])) ≡ true
holds_more values bound [] k h all =
    elim (cases_Bool (ltb bound k.level)) [
      | inl high ↦ rw high refl
      | inr low ↦ rw low (and_from (clause_holds values k.literals) true
          (h (omega (arith, ltb-false bound k.level low))) refl)
    ]
holds_more values bound (x ∷ xs) k h all =
    let parts = and_parts (place_holds values (stays_up_to bound x)) (all_hold values (kept_up_to bound xs)) all in
    and_from (place_holds values (stays_up_to bound x)) (all_hold values (kept_up_to bound (xs ++ Some k ∷ []))) parts.0
    (holds_more values bound xs k h parts.1)

-- that is learned,
pub entails_learned : LearnedHolds → LearnedHasLevels → LessonsFollow
entails_learned holds levels kept clause ids level lesson = λ values bound all.
    holds_more values bound kept (record { literals = clause; level = level })
    (λ low. holds (literal_holds values) (negation_holds values) kept clause ids level lesson.accepted
    (λ id c among there. holds_at values kept bound id c all there
    (omega (arith, low, levels kept clause ids level lesson.accepted id c among there)))) all

both_hold : (values : ℕ → Bool) (atom : ℕ)
    → clause_holds values (record { atom = atom; positive = true } ∷ record { atom = atom; positive = false } ∷ [])
    ≡ true
both_hold values atom = one (values atom)
  where
    one : (b : Bool) → (b || (not b || false)) ≡ true
    one true = refl
    one false = refl

-- that has a literal and its negation,
pub entails_both : (kept new : Kept) (clause : List Lit) (atom : ℕ)
    → clause ≡ record { atom = atom; positive = true } ∷ record { atom = atom; positive = false } ∷ []
    → new ≡ kept ++ Some (record { literals = clause; level = 0 }) ∷ [] → Entails kept new
entails_both kept new clause atom is_both is = λ values bound all.
    subst (λ (ks : Kept). all_hold values (kept_up_to bound ks) ≡ true) (sym is)
    (holds_more values bound kept (record { literals = clause; level = 0 })
    (λ _. subst (λ (ls : List Lit). clause_holds values ls ≡ true) (sym is_both) (both_hold values atom)) all)

-- that is taught
pub follows_lemma : (teaches : List Lit → Type 0) (kept new : Kept) (clause : List Lit)
    → new ≡ with_lemma kept clause → teaches clause → FollowsByLevel teaches kept new
follows_lemma teaches kept new clause is taught = λ bound values obeys all.
    subst (λ (ks : Kept). all_hold values (kept_up_to bound ks) ≡ true) (sym is)
    (holds_more values bound kept (record { literals = clause; level = 0 }) (λ _. obeys clause taught) all)

-- the clauses as they were,
pub follows_same : (teaches : List Lit → Type 0) (old new : Kept) → new ≡ old → FollowsByLevel teaches old new
follows_same teaches old new same = λ bound values obeys all.
    subst (λ (ks : Kept). all_hold values (kept_up_to bound ks) ≡ true) (sym same) all

-- one after the other
pub follows_on : (one two : List Lit → Type 0) (old middle new : Kept) → ((clause : List Lit) → one clause → two clause)
    → FollowsByLevel one old middle → FollowsByLevel two middle new → FollowsByLevel two old new
follows_on one two old middle new more h k = λ bound values obeys all.
    k bound values obeys (h bound values (λ clause taught. obeys clause (more clause taught)) all)

holds_up_to : (values : ℕ → Bool) (bound : ℕ) (kept : Kept) → all_hold values kept ≡ true
    → all_hold values (kept_up_to bound kept) ≡ true
holds_up_to values bound [] all = refl
holds_up_to values bound (None ∷ ks) all = holds_up_to values bound ks all
holds_up_to values bound (Some k ∷ ks) all =
    let parts = and_parts (clause_holds values k.literals) (all_hold values ks) all in
    elim (cases_Bool (ltb bound k.level)) [
      | inl high ↦ rw high (holds_up_to values bound ks parts.1)
      | inr low ↦ rw low (and_from (clause_holds values k.literals) (all_hold values (kept_up_to bound ks)) parts.0
          (holds_up_to values bound ks parts.1))
    ]

not_above : (n : ℕ) → ltb n n ≡ false
not_above n = false_from_ne_true (ltb n n) (λ h. absurd (omega (arith, ltb-true n n h)))

holds_at_each : (values : ℕ → Bool) (kept : Kept)
    → ((bound : ℕ) → all_hold values (kept_up_to bound kept) ≡ true) → all_hold values kept ≡ true
holds_at_each values [] h = refl
holds_at_each values (None ∷ ks) h = holds_at_each values ks h
holds_at_each values (Some k ∷ ks) h =
    and_from (clause_holds values k.literals) (all_hold values ks)
    ((and_parts (clause_holds values k.literals) (all_hold values (kept_up_to k.level ks))
    (rw (not_above k.level) at (h k.level))).0)
    (holds_at_each values ks (λ bound. (and_parts (place_holds values (stays_up_to bound (Some k)))
    (all_hold values (kept_up_to bound ks)) (h bound)).1))

-- at each level, so at all
pub follows_in_all : (teaches : List Lit → Type 0) (old new : Kept) → FollowsByLevel teaches old new
    → Follows teaches old new
follows_in_all teaches old new h = λ values obeys all.
    holds_at_each values new (λ bound. h bound values obeys (holds_up_to values bound old all))

holds_there : (values : ℕ → Bool) (kept : Kept) (id : ℕ) (clause : KeptClause) → all_hold values kept ≡ true
    → kept_at kept id ≡ Some clause → clause_holds values clause.literals ≡ true
holds_there values [] id clause all there = absurd (Prim.cc (there))
holds_there values (k ∷ ks) zero clause all there =
    (and_parts (clause_holds values clause.literals) (all_hold values ks)
    (subst (λ (x : Option KeptClause). all_hold values (x ∷ ks) ≡ true) there all)).0
holds_there values (k ∷ ks) (suc id) clause all there =
    holds_there values ks id clause (and_parts (place_holds values k) (all_hold values ks) all).1 there

-- a clause of negated assumptions, where these are true
negated_fails : (values : ℕ → Bool) (assumptions ls : List Lit) → are_negated assumptions ls ≡ true
    → list_all (literal_holds values) assumptions ≡ true → clause_holds values ls ≡ true → ⊥
negated_fails values assumptions [] negated all any = false≢true any
negated_fails values assumptions (l ∷ ls) negated all any =
    let parts = and_parts (is_among (map negation assumptions) l) (are_negated assumptions ls) negated in
    elim (or_cases (literal_holds values l) (clause_holds values ls) any) [
      | inl here ↦
          let other : literal_holds values (negation l) ≡ true =
          all_among (literal_holds values) assumptions (negation l) all (sym (among_negated assumptions l) ∙ parts.0) in
          false≢true (sym (not-true (literal_holds values l) (sym (negation_holds values l) ∙ other)) ∙ here)
      | inr later ↦ negated_fails values assumptions ls parts.1 all later
    ]

-- a kept clause of negated assumptions alone
pub refuted : (teaches : List Lit → Type 0) (old new : Kept) (assumptions : List Lit) (id : ℕ)
    → FollowsByLevel teaches old new → IsKeptCore new assumptions id → AreRefuted teaches old assumptions
refuted teaches old new assumptions id h core = λ values obeys all.
    false_from_ne_true (list_all (literal_holds values) assumptions) (λ given.
    negated_fails values assumptions core.clause.literals core.negated given
    (holds_there values new id core.clause (follows_in_all teaches old new h values obeys all) core.there))
