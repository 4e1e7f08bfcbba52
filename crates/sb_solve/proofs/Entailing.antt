-- What kept clauses follow from, step by step.
use Rattle.sb_solve.proofs.Words.{◌≡◌, ℕ, zero, suc, ◌<◌, ◌≤◌, Bool, true, false, nat_lt, if◌then◌else◌, List, [], ◌∷◌, ◌++◌, length, get_or, slice_get, Option, Some, None, unwrap_or, refl, sym, ap, subst, ◌∙◌, arith, inl, inr, list_all, list_any, false≢true, and_parts, and_from, or_left, ltb-false, le-ltb, same_Some, slice_get-get_or, Lit, Kept, KeptClause, kept_at, kept_up_to, stays_up_to, Term, Valuation, Atom, clause_holds, literal_holds, truths_of, are_known, Asked, HasWords, HasSorts, TranslationHolds, LevelsHold, truths_from-front, truths_from-append, length-truths_of, any_holds-front, kept_at-up_to, Contains-slice_get, atoms_in, atoms_kept, kept-cases, place_holds, AreEntailed, with_clause, EntailedInLarger, GatesHold, NoneAreEntailed, AssertedIsEntailed, GateIsEntailed, SearchedAreEntailed, ContinuedAreEntailed, DroppedAreEntailed, EntailedOverMore, RefutedAreFalse, RefutedAreContradicted}
use Rattle.sb_search.specs.Following.{all_hold}
use Rattle.sb_search.specs.Following as search

pub none_entailed : NoneAreEntailed
none_entailed asked atoms id clause there = absurd (Prim.cc (there))

-- One more clause.

pub with_entailed : (asked : Asked) (atoms : List Atom) (kept : Kept) (literals : List Lit) (level : ℕ)
    → AreEntailed asked atoms kept
    → ((v : Valuation) → HasWords v → HasSorts v asked.sorts → LevelsHold v asked.live level
    → clause_holds v atoms literals ≡ true)
    → AreEntailed asked atoms (with_clause kept literals level)
with_entailed asked atoms kept literals level h new = λ id clause there v words sorts levels.
    elim (kept-cases kept (Some (record { literals = literals; level = level })) id clause there) [
      | inl old ↦ h id clause old v words sorts levels
      | inr is ↦
          subst (λ (k : KeptClause). LevelsHold v asked.live k.level → clause_holds v atoms k.literals ≡ true)
          (same_Some (record { literals = literals; level = level }) clause is.1)
          (λ now. new v words sorts now) levels
    ]

pub asserted_entailed : TranslationHolds → AssertedIsEntailed
asserted_entailed law asked atoms kept t level l h live fit table is =
    with_entailed asked atoms kept (l ∷ []) level h (λ v words sorts levels.
    or_left (literal_holds (truths_of v atoms) l) false
    (law v asked.sorts atoms t l table sorts fit is ∙ levels (Some t, level) t live refl (omega arith)))

pub gate_entailed : GatesHold → GateIsEntailed
gate_entailed law asked atoms kept clause level h table is =
    with_entailed asked atoms kept clause level h (λ v words sorts levels. law v atoms clause table words is)

-- A search.

module _ (values : ℕ → Bool) where
  -- all hold where each does
  up_to_hold : (n : ℕ) (kept : Kept)
      → ((id : ℕ) (clause : KeptClause) → kept_at kept id ≡ Some clause → clause.level ≤ n
      → search.clause_holds values clause.literals ≡ true)
      → all_hold values (kept_up_to n kept) ≡ true
  up_to_hold n [] h = refl
  up_to_hold n (None ∷ kept) h = up_to_hold n kept (λ id. h (suc id))
  up_to_hold n (Some c ∷ kept) h =
      and_from (place_holds values (stays_up_to n (Some c))) (all_hold values (kept_up_to n kept))
      (step (nat_lt n c.level) refl) (up_to_hold n kept (λ id. h (suc id)))
    where
      step : (b : Bool) → nat_lt n c.level ≡ b → place_holds values (if b then None else Some c) ≡ true
      step true above = refl
      step false low = h 0 c refl (ltb-false n c.level low)

  -- and each does where all do
  one_holds : (n : ℕ) (kept : Kept) (id : ℕ) (clause : KeptClause) → all_hold values (kept_up_to n kept) ≡ true
      → kept_at kept id ≡ Some clause → clause.level ≤ n → search.clause_holds values clause.literals ≡ true
  one_holds n [] id clause h there low = absurd (Prim.cc (there))
  one_holds n (p ∷ kept) zero clause h there low =
      let q = and_parts (place_holds values (stays_up_to n p)) (all_hold values (kept_up_to n kept)) h in
      ap (λ (b : Bool). place_holds values (if b then None else Some clause)) (sym (le-ltb n clause.level low))
      ∙ ap (λ (o : Option KeptClause). place_holds values (stays_up_to n o)) (sym there) ∙ q.0
  one_holds n (p ∷ kept) (suc id) clause h there low =
      let q = and_parts (place_holds values (stays_up_to n p)) (all_hold values (kept_up_to n kept)) h in
      one_holds n kept id clause q.1 there low

  each_place : (kept : Kept)
      → ((id : ℕ) (clause : KeptClause) → kept_at kept id ≡ Some clause
      → search.clause_holds values clause.literals ≡ true)
      → all_hold values kept ≡ true
  each_place [] h = refl
  each_place (None ∷ kept) h = each_place kept (λ id. h (suc id))
  each_place (Some c ∷ kept) h =
      and_from (search.clause_holds values c.literals) (all_hold values kept) (h 0 c refl)
      (each_place kept (λ id. h (suc id)))

-- the values of atoms under a valuation
abbrev values_under : Valuation → List Atom → ℕ → Bool
values_under v atoms i = unwrap_or (slice_get (truths_of v atoms) i) false

lower_hold : (v : Valuation) (live : List (Option Term × ℕ)) (m n : ℕ) → m ≤ n → LevelsHold v live n
    → LevelsHold v live m
lower_hold v live m n le h = λ a t among is low. h a t among is (omega (arith, le, low))

pub searched_entailed : SearchedAreEntailed
searched_entailed asked rs atoms old new h follows = λ id clause there v words sorts levels.
    let values = values_under v (atoms_in rs atoms) in
    let n = clause.level in
    let before = up_to_hold values n old (λ i c at low.
    h i c at v words sorts (lower_hold v asked.live c.level n low levels)) in
    one_holds values n new id clause (follows n values (λ c valid. valid v words) before) there (omega arith)

-- The script goes on.

pub slice_there : {X : Type 0} → (xs : List X) (k : ℕ) (x : X) → k < length xs → get_or xs k x ≡ x
    → slice_get xs k ≡ Some x
slice_there xs k x below h = slice_get-get_or xs k x below ∙ ap Some h

pub continued_entailed : ContinuedAreEntailed
continued_entailed before now atoms kept on h = λ id clause there v words sorts levels.
    h id clause there v words (on.sorts v sorts) (λ a t among is low.
    levels a t (Contains-slice_get now.live among.0 a
    (on.live among.0 a (slice_there before.live among.0 a among.1 among.2))) is low)

pub dropped_entailed : DroppedAreEntailed
dropped_entailed level before now atoms kept on h = λ id clause there v words sorts levels.
    let was = kept_at-up_to level kept id clause there in
    h id clause was.0 v words (on.sorts v sorts) (λ a t among is low.
    levels a t (Contains-slice_get now.live among.0 a
    (on.live among.0 a (slice_there before.live among.0 a among.1 among.2) (omega (arith, low, was.1)))) is low)

-- Tables and arenas.

clause_holds-more : (v : Valuation) (atoms more : List Atom) (clause : List Lit) → are_known atoms clause ≡ true
    → clause_holds v (atoms ++ more) clause ≡ clause_holds v atoms clause
clause_holds-more v atoms more clause known =
    let front = truths_from-front v (truths_of v atoms) more in
    ap (λ (ts : List Bool). list_any (literal_holds ts) clause) (truths_from-append v [] atoms more ∙ front.1)
    ∙ any_holds-front (truths_of v atoms) front.0 clause
    (ap (λ (n : ℕ). list_all (λ (l : Lit). nat_lt l.atom n) clause) (length-truths_of v atoms) ∙ known)

pub entailed_more : EntailedOverMore
entailed_more asked atoms more kept known h = λ id clause there v words sorts levels.
    clause_holds-more v atoms more clause.literals (known id clause there) ∙ h id clause there v words sorts levels

pub entailed_larger : EntailedInLarger
entailed_larger asked old new atoms kept e below h =
    subst (λ (table : List Atom). AreEntailed asked table kept) (sym (atoms_kept old new atoms e below)) h

-- A refutation.

pub refuted_false : RefutedAreFalse
refuted_false asked rs atoms kept assumptions h refuted v words sorts levels =
    refuted (values_under v (atoms_in rs atoms)) (λ c valid. valid v words)
    (each_place (values_under v (atoms_in rs atoms)) kept
    (λ id clause there. h id clause there v words sorts (levels clause.level)))

pub refuted_contradicted : RefutedAreContradicted
refuted_contradicted asked rs atoms kept h refuted v words sorts levels =
    false≢true (sym (refuted_false asked rs atoms kept [] h refuted v words sorts levels))
