-- The heap of the clauses above level 0.
use Rattle.std.proofs.Common.{◌≡◌, ℕ, zero, suc, ◌<◌, ◌≤◌, true, false, ◌⊎◌, eqb, leb, List, [], ◌∷◌, ◌++◌, length, get_or, set, Option, Some, None, refl, sym, ◌∙◌, ap, inl, inr, arith}
use Rattle.std.specs.List.{list_all, list_any}
use Rattle.std.specs.List.Sorted.{IsPermutation}
use Rattle.std.specs.BinaryHeap.{IsUpperBound, KeepsHeap}
use Rattle.std.proofs.lemmas.Bool.{false≢true, and_parts, and_from, or_left, or_right, or_cases, cases_Bool, cases_lt, eqb-true, eq-eqb, le-leb, lt-ltb, ltb-true, leb-true}
use Rattle.std.specs.Option.{option_map}
use Rattle.std.proofs.lemmas.List.{map-set, map-append, length-map}
use Rattle.std.proofs.lemmas.Option.{same_Some, none-some}
use Rattle.std.proofs.lemmas.List.Sorted.{length_permutation, list_any-IsPermutation}
use Rattle.std.specs.Ordering.{is_lt}
use Rattle.sb_lit.specs.Kept.{Kept, KeptClause, kept_at, is_above, stays_up_to, kept_up_to}
use Rattle.sb_clauses.specs.declared.record.Record.{Record}
use Rattle.sb_clauses.specs.Records.{clause_of, kept_of}
use Rattle.sb_clauses.specs.Scoped.{scope_order, is_pair, AreScoped, IsPopped, without_above, IsScopedTurn}
use Rattle.sb_clauses.proofs.Growing.{kept_at_place, kept_at_past}

-- where no clause is above the level all stay
all_stay : (level : ℕ) (kept : Kept) → ((id : ℕ) → is_above (kept_at kept id) level ≡ false)
    → kept_up_to level kept ≡ kept
all_stay level [] h = refl
all_stay level (x ∷ xs) h = rw (h 0, all_stay level xs (λ id. h (suc id))) refl

-- a clause above the level is one
above_some : (level : ℕ) (o : Option KeptClause) → is_above o level ≡ true
    → (clause : KeptClause) × (o ≡ Some clause) × (level < clause.level)
above_some level None h = absurd (false≢true h)
above_some level (Some clause) h = (clause, refl, ltb-true level clause.level h)

pair_here : (level id : ℕ) → is_pair level id (level, id) ≡ true
pair_here level id = rw (eq-eqb level level refl, eq-eqb id id refl) refl

-- a pair that is there is of a level up to this one, where all are
within : (level top id : ℕ) (scoped : List (ℕ × ℕ)) → list_all (λ (pair : ℕ × ℕ). leb pair.0 level) scoped ≡ true
    → list_any (is_pair top id) scoped ≡ true → top ≤ level
within level top id [] all h = absurd (false≢true h)
within level top id (pair ∷ rest) all h =
    let parts = and_parts (leb pair.0 level) (list_all (λ (p : ℕ × ℕ). leb p.0 level) rest) all in
    elim (or_cases (is_pair top id pair) (list_any (is_pair top id) rest) h) [
      | inl here ↦
          let same = and_parts (eqb pair.0 top) (eqb pair.1 id) here in
          omega (arith, leb-true pair.0 level parts.0, eqb-true pair.0 top same.0)
      | inr later ↦ within level top id rest parts.1 later
    ]

-- no pair is of a higher level than the greatest
below_top : (top pair : ℕ × ℕ) → is_lt (scope_order top pair) ≡ false → pair.0 ≤ top.0
below_top top pair h =
    elim (cases_lt top.0 pair.0) [
      | inl less ↦ absurd (false≢true (sym h ∙ rw (lt-ltb top.0 pair.0 less) refl))
      | inr not_less ↦ not_less
    ]

pub top_low : (level : ℕ) (top : ℕ × ℕ) (scoped : List (ℕ × ℕ)) → IsUpperBound scope_order top scoped → top.0 ≤ level
    → list_all (λ (pair : ℕ × ℕ). leb pair.0 level) scoped ≡ true
top_low level top [] h low = refl
top_low level top (pair ∷ rest) h low =
    and_from (leb pair.0 level) (list_all (λ (p : ℕ × ℕ). leb p.0 level) rest)
    (le-leb pair.0 level (omega (arith, low, below_top top pair h.0))) (top_low level top rest h.1 low)

-- where no pair is above the level all clauses stay
pub scoped_end : (level : ℕ) (kept : Kept) (scoped : List (ℕ × ℕ)) → AreScoped kept scoped
    → list_all (λ (pair : ℕ × ℕ). leb pair.0 level) scoped ≡ true → kept_up_to level kept ≡ kept
scoped_end level kept scoped h all =
    all_stay level kept (λ id. elim (cases_Bool (is_above (kept_at kept id) level)) [
      | inl above ↦
          let found = above_some level (kept_at kept id) above in
          let low = within level found.0.level id scoped all (h.all id found.0 found.1 (omega (arith, found.2))) in
          absurd (omega (arith, low, found.2))
      | inr not_above ↦ not_above
    ])

-- a place that is emptied
pub at_emptied : (kept : Kept) (number id : ℕ) (clause : KeptClause) → kept_at (set kept number None) id ≡ Some clause
    → (kept_at kept id ≡ Some clause) × (id ≡ number → ⊥)
at_emptied [] number id clause h = absurd (none-some clause h)
at_emptied (x ∷ xs) zero zero clause h = absurd (none-some clause h)
at_emptied (x ∷ xs) zero (suc id) clause h = (h, λ same. omega (arith, same))
at_emptied (x ∷ xs) (suc number) zero clause h = (h, λ same. omega (arith, same))
at_emptied (x ∷ xs) (suc number) (suc id) clause h =
    let rest = at_emptied xs number id clause h in
    (rest.0, λ same. rest.1 (omega (arith, same)))

same_emptied : (level : ℕ) (kept : Kept) (number : ℕ) → is_above (kept_at kept number) level ≡ true
    → kept_up_to level (set kept number None) ≡ kept_up_to level kept
same_emptied level [] number h = refl
same_emptied level (x ∷ xs) zero h = rw h refl
same_emptied level (x ∷ xs) (suc number) h = ap (λ ys. stays_up_to level x ∷ ys) (same_emptied level xs number h)

module _ (level : ℕ) (kept : Kept) (scoped now : List (ℕ × ℕ)) (number : ℕ) (h : AreScoped kept scoped)
    (popped : IsPopped level scoped now number) where
  -- a pair that was there is still there, or is the one that went
  still : (top id : ℕ) → list_any (is_pair top id) scoped ≡ true → ((id ≡ number) × (level < top) → ⊥)
      → list_any (is_pair top id) now ≡ true
  still top id there other =
      let split : list_any (is_pair top id) ((popped.highest, number) ∷ now) ≡ true =
      sym (list_any-IsPermutation (is_pair top id) scoped ((popped.highest, number) ∷ now) popped.others) ∙ there in
      elim (or_cases (is_pair top id (popped.highest, number)) (list_any (is_pair top id) now) split) [
        | inl here ↦
            let same = and_parts (eqb popped.highest top) (eqb number id) here in
            absurd (other (
              omega (arith, eqb-true number id same.1),
              omega (arith, popped.above, eqb-true popped.highest top same.0),
            ))
        | inr later ↦ later
      ]

  fewer : length now < length scoped
  fewer = omega (arith, length_permutation scoped ((popped.highest, number) ∷ now) popped.others)

  emptied : is_above (kept_at kept number) level ≡ true → IsScopedTurn level kept (set kept number None) scoped now
  emptied above = record {
    stays = record {
      ordered = popped.ordered;
      all = λ id clause there scope.
          let before = at_emptied kept number id clause there in
          still clause.level id (h.all id clause before.0 scope) (λ same. before.1 same.0);
    };
    same = same_emptied level kept number above;
    fewer = fewer;
  }

  unchanged : is_above (kept_at kept number) level ≡ false → IsScopedTurn level kept kept scoped now
  unchanged not_above = record {
    stays = record {
      ordered = popped.ordered;
      all = λ id clause there scope.
          still clause.level id (h.all id clause there scope) (λ both.
          let above : is_above (kept_at kept number) level ≡ true =
          ap (λ n. is_above (kept_at kept n) level) (sym both.0) ∙ ap (λ o. is_above o level) there
          ∙ lt-ltb level clause.level both.1 in
          false≢true (sym not_above ∙ above));
    };
    same = refl;
    fewer = fewer;
  }

  pub turn : (new : Kept) → new ≡ without_above level number kept → IsScopedTurn level kept new scoped now
  turn new is =
      elim (cases_Bool (is_above (kept_at kept number) level)) [
        | inl above ↦
            let same : new ≡ set kept number None = is ∙ rw above refl in
            rw same (emptied above)
        | inr not_above ↦
            let same : new ≡ kept = is ∙ rw not_above refl in
            rw same (unchanged not_above)
      ]

-- one clause more at the end
pushed_at : (kept : Kept) (o : Option KeptClause) (id : ℕ) (clause : KeptClause)
    → kept_at (kept ++ o ∷ []) id ≡ Some clause
    → (kept_at kept id ≡ Some clause) ⊎ ((id ≡ length kept) × (o ≡ Some clause))
pushed_at [] o zero clause h = inr (refl, h)
pushed_at [] o (suc id) clause h = absurd (none-some clause h)
pushed_at (x ∷ xs) o zero clause h = inl h
pushed_at (x ∷ xs) o (suc id) clause h =
    elim (pushed_at xs o id clause h) [
      | inl before ↦ inl before
      | inr last ↦ inr (omega (arith, last.0), last.1)
    ]

module _ (level number : ℕ) (scoped now : List (ℕ × ℕ)) (more : IsPermutation ((level, number) ∷ scoped) now) where
  -- a pair more
  pub pair_there : list_any (is_pair level number) now ≡ true
  pair_there = sym (list_any-IsPermutation (is_pair level number) ((level, number) ∷ scoped) now more)
      ∙ or_left (is_pair level number (level, number)) (list_any (is_pair level number) scoped)
      (pair_here level number)

  pub scoped_pushed : KeepsHeap scope_order scoped now → (kept : Kept) → AreScoped kept scoped → AreScoped kept now
  scoped_pushed keeps kept h = record {
    ordered = keeps h.ordered;
    all = λ id clause there scope.
        sym (list_any-IsPermutation (is_pair clause.level id) ((level, number) ∷ scoped) now more)
        ∙ or_right (is_pair clause.level id (level, number)) (list_any (is_pair clause.level id) scoped)
        (h.all id clause there scope);
  }

-- a record more, whose pair is there
pub scoped_more : (records : List (Option Record)) (r : Record) (scoped : List (ℕ × ℕ)) (number : ℕ)
    → number ≡ length records → AreScoped (kept_of records) scoped
    → (0 < r.level → list_any (is_pair r.level number) scoped ≡ true)
    → AreScoped (kept_of (records ++ Some r ∷ [])) scoped
scoped_more records r scoped number last h new = record {
  ordered = h.ordered;
  all = λ id found there scope.
      let split : kept_at (kept_of records ++ Some (clause_of r) ∷ []) id ≡ Some found =
      ap (λ (kept : Kept). kept_at kept id) (sym (map-append (option_map clause_of) records (Some r ∷ []))) ∙ there in
      elim (pushed_at (kept_of records) (Some (clause_of r)) id found split) [
        | inl before ↦ h.all id found before scope
        | inr at_end ↦
            let same : clause_of r ≡ found = same_Some (clause_of r) found at_end.1 in
            let place : number ≡ id = last ∙ sym (length-map records (option_map clause_of)) ∙ sym at_end.0 in
            let level : r.level ≡ found.level = ap (λ (k : KeptClause). k.level) same in
            rw (← level, ← place) (new (omega (arith, scope, level)))
      ];
}

-- a record that is emptied, or stays
pub emptied_record : (level : ℕ) (records : List (Option Record)) (number : ℕ) (place : Option Record)
    → number < length records → place ≡ get_or records number place
    → is_above (option_map clause_of place) level ≡ true
    → kept_of (set records number None) ≡ without_above level number (kept_of records)
emptied_record level records number place inside is above =
    let here : is_above (kept_at (kept_of records) number) level ≡ true =
    ap (λ o. is_above o level) (kept_at_place records number place inside is) ∙ above in
    map-set (option_map clause_of) records number None ∙ sym (rw here refl)

pub kept_record : (level : ℕ) (records : List (Option Record)) (number : ℕ) (place : Option Record)
    → number < length records → place ≡ get_or records number place
    → is_above (option_map clause_of place) level ≡ false
    → kept_of records ≡ without_above level number (kept_of records)
kept_record level records number place inside is not_above =
    let here : is_above (kept_at (kept_of records) number) level ≡ false =
    ap (λ o. is_above o level) (kept_at_place records number place inside is) ∙ not_above in
    sym (rw here refl)

pub no_record : (level : ℕ) (records : List (Option Record)) (number : ℕ) → length records ≤ number
    → kept_of records ≡ without_above level number (kept_of records)
no_record level records number past =
    let here : is_above (kept_at (kept_of records) number) level ≡ false =
    ap (λ o. is_above o level) (kept_at_past records number past) in
    sym (rw here refl)
