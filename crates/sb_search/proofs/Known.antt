-- Atoms of kept clauses and of assumptions that are known.
use Rattle.sb_search.proofs.Words.{◌≡◌, ◌⊎◌, ℕ, zero, suc, true, eqb, List, [], ◌∷◌, ◌++◌, Option, Some, None, refl, sym, ap, subst, inl, inr, eqb-true, eq-eqb, false≢true, or_cases, same_Some, Lit, is_among, Kept, KeptClause, kept_at, all_among, IsLesson, AreKnown, HasKnownAtoms, IsWritten, nothing, learns, divides, Written, true_or_false, literals_at, is_named, AreAllKnown}

-- where others are known too, and the same clauses are kept
pub known_on : (old new : ℕ → Type 0) (kept now : Kept) (assumptions : List Lit) → ((atom : ℕ) → old atom → new atom)
    → now ≡ kept → HasKnownAtoms old kept assumptions → HasKnownAtoms new now assumptions
known_on old new kept now assumptions more same h =
    subst (λ (k : Kept). HasKnownAtoms new k assumptions) (sym same) (record {
      clauses = λ id clause there l among. more l.atom (h.clauses id clause there l among);
      assumed = λ l among. more l.atom (h.assumed l among);
    })

added_at : (kept : Kept) (k clause : KeptClause) (id : ℕ) → kept_at (kept ++ Some k ∷ []) id ≡ Some clause
    → (kept_at kept id ≡ Some clause) ⊎ (k ≡ clause)
added_at [] k clause zero h = inr (same_Some k clause h)
added_at [] k clause (suc id) h = absurd (Prim.cc (h))
added_at (x ∷ xs) k clause zero h = inl h
added_at (x ∷ xs) k clause (suc id) h = added_at xs k clause id h

-- one more clause is kept,
pub known_more : (passes : ℕ → Type 0) (kept now : Kept) (clause assumptions : List Lit) (level : ℕ)
    → now ≡ kept ++ Some (record { literals = clause; level = level }) ∷ [] → AreKnown passes clause
    → HasKnownAtoms passes kept assumptions → HasKnownAtoms passes now assumptions
known_more passes kept now clause assumptions level is known h =
    subst (λ (k : Kept). HasKnownAtoms passes k assumptions) (sym is) (record {
      clauses = λ id c there. elim (added_at kept (record { literals = clause; level = level }) c id there) [
        | inl old ↦ h.clauses id c old
        | inr new ↦ subst (λ (k : KeptClause). AreKnown passes k.literals) new known
      ];
      assumed = h.assumed;
    })

one_named : (passes : ℕ → Type 0) (kept : Kept) (hints : List ℕ) (l : Lit) → AreAllKnown passes kept
    → is_named kept hints l ≡ true → passes l.atom
one_named passes kept [] l h named = absurd (false≢true named)
one_named passes kept (id ∷ ids) l h named =
    elim (or_cases (is_among (literals_at kept id) l) (is_named kept ids l) named) [
      | inl here ↦ step (kept_at kept id) refl here
      | inr later ↦ one_named passes kept ids l h later
    ]
  where
    step : (o : Option KeptClause) → kept_at kept id ≡ o
        → is_among (elim o as (λ _. List Lit) [ None ↦ [] | Some clause ↦ clause.literals ]) l ≡ true → passes l.atom
    step None is among = absurd (false≢true among)
    step (Some clause) is among = h id clause is l among

-- one that is learned,
pub lesson_known : (passes : ℕ → Type 0) (kept : Kept) (clause : List Lit) (hints : List ℕ) (level : ℕ)
    → AreAllKnown passes kept → IsLesson kept clause hints level → AreKnown passes clause
lesson_known passes kept clause hints level h lesson = λ l among.
    one_named passes kept hints l h (all_among (is_named kept hints) clause l lesson.named among)

-- or that of an atom that is true or false
both_known : (passes : ℕ → Type 0) (atom : ℕ) → passes atom → AreKnown passes (true_or_false atom)
both_known passes atom known = λ l among.
    subst passes (sym (eqb-true l.atom atom
    (all_among (λ (m : Lit). eqb m.atom atom) (true_or_false atom) l (rw (eq-eqb atom atom refl) refl) among))) known

-- so it is with what the search writes itself
pub known_written : (passes : ℕ → Type 0) (assumptions : List Lit) (before after : Written)
    → IsWritten assumptions before after → HasKnownAtoms passes before.kept assumptions
    → HasKnownAtoms passes after.kept assumptions
known_written passes assumptions before after (nothing same) h =
    subst (λ (proof : Written). HasKnownAtoms passes proof.kept assumptions) (sym same) h
known_written passes assumptions before after (learns clause hints level lesson follows text room same) h =
    known_more passes before.kept after.kept clause assumptions level (ap (λ (proof : Written). proof.kept) same)
    (lesson_known passes before.kept clause hints level h.clauses lesson) h
known_written passes assumptions before after (divides l among text same) h =
    known_more passes before.kept after.kept (true_or_false l.atom) assumptions 0
    (ap (λ (proof : Written). proof.kept) same) (both_known passes l.atom (h.assumed l among)) h
