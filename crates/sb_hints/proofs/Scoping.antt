-- The heap of the levels, and the clauses that go.
use Rattle.std.proofs.Common.{◌≡◌, ℕ, zero, suc, ◌<◌, ◌≤◌, Bool, true, false, eqb, List, [], ◌∷◌, ◌++◌, length, map, set, Option, Some, None, refl, sym, ◌∙◌, ap, inl, inr, arith}
use Rattle.std.specs.List.{list_any}
use Rattle.std.specs.List.Sorted.{IsPermutation}
use Rattle.std.specs.BinaryHeap.{IsUpperBound, KeepsHeap}
use Rattle.std.specs.Ordering.{is_lt}
use Rattle.std.proofs.Math.Seq.{map-set_same}
use Rattle.std.proofs.lemmas.Bool.{false≢true, and_parts, or_left, or_right, or_cases, cases_Bool, cases_lt, eqb-true, eq-eqb, lt-ltb, ltb-true}
use Rattle.std.proofs.lemmas.Option.{none-some, unwrap_or-slice_get}
use Rattle.std.proofs.lemmas.List.Sorted.{length_permutation, list_any-IsPermutation}
use Rattle.sb_lit.specs.Kept.{Kept, KeptClause, kept_at}
use Rattle.sb_hints.specs.Dropping.{is_left, goes, stays_down_to, kept_down_to, without, scope_order, is_pair, AreScoped, IsPopped}
use Rattle.sb_hints.proofs.Searching.{push_cases}

-- where all levels are left no clause stays
pub down_to_none : (kept : Kept) → kept_down_to None kept ≡ map (λ place. None) kept
down_to_none [] = refl
down_to_none (None ∷ xs) = rw (down_to_none xs) refl
down_to_none (Some clause ∷ xs) = rw (down_to_none xs) refl

none_kept : (kept : Kept) (id : ℕ) → kept_at (map (λ place. None) kept) id ≡ None
none_kept [] id = refl
none_kept (x ∷ xs) zero = refl
none_kept (x ∷ xs) (suc id) = none_kept xs id

pub none_after : (kept new : Kept) → new ≡ kept_down_to None kept → (id : ℕ) → kept_at new id ≡ None
none_after kept new went id = ap (λ (all : Kept). kept_at all id) (went ∙ down_to_none kept) ∙ none_kept kept id

-- a place that is emptied
pub none_at : (kept : Kept) (number : ℕ) → kept_at (set kept number None) number ≡ None
none_at [] number = refl
none_at (x ∷ xs) zero = refl
none_at (x ∷ xs) (suc number) = none_at xs number

pub at_emptied : (kept : Kept) (number id : ℕ) (clause : KeptClause) → kept_at (set kept number None) id ≡ Some clause
    → (kept_at kept id ≡ Some clause) × (id ≡ number → ⊥)
at_emptied [] number id clause h = absurd (none-some clause h)
at_emptied (x ∷ xs) zero zero clause h = absurd (none-some clause h)
at_emptied (x ∷ xs) zero (suc id) clause h = (h, λ same. omega (arith, same))
at_emptied (x ∷ xs) (suc number) zero clause h = (h, λ same. omega (arith, same))
at_emptied (x ∷ xs) (suc number) (suc id) clause h =
    let rest = at_emptied xs number id clause h in
    (rest.0, λ same. rest.1 (omega (arith, same)))

-- where no clause goes all stay
all_stay : (down_to : Option ℕ) (kept : Kept) → ((id : ℕ) → goes down_to (kept_at kept id) ≡ false)
    → kept_down_to down_to kept ≡ kept
all_stay down_to [] h = refl
all_stay down_to (x ∷ xs) h = rw (h 0, all_stay down_to xs (λ id. h (suc id))) refl

module _ (down_to : Option ℕ) where
  -- a level below one that is not left
  left_above : (low high : ℕ) → low ≤ high → is_left down_to low ≡ true → is_left down_to high ≡ true
  left_above low high le h = go down_to h
    where
      go : (o : Option ℕ) → is_left o low ≡ true → is_left o high ≡ true
      go None is = refl
      go (Some last) is = lt-ltb last high (omega (arith, le, ltb-true last low is))

  abbrev any_left : List (ℕ × ℕ) → Bool
  any_left scoped = list_any (λ (pair : ℕ × ℕ). is_left down_to pair.0) scoped

  -- no pair is of a higher level than the greatest
  below_top : (top pair : ℕ × ℕ) → is_lt (scope_order top pair) ≡ false → pair.0 ≤ top.0
  below_top top pair h =
      elim (cases_lt top.0 pair.0) [
        | inl less ↦ absurd (false≢true (sym h ∙ rw (lt-ltb top.0 pair.0 less) refl))
        | inr not_less ↦ not_less
      ]

  pub none_left : (top : ℕ × ℕ) (scoped : List (ℕ × ℕ)) → IsUpperBound scope_order top scoped
      → is_left down_to top.0 ≡ false → any_left scoped ≡ false
  none_left top [] h stays = refl
  none_left top (pair ∷ rest) h stays =
      elim (cases_Bool (is_left down_to pair.0)) [
        | inl left ↦
            absurd (false≢true (sym stays ∙ left_above pair.0 top.0 (below_top top pair h.0) left))
        | inr not_left ↦ rw not_left (none_left top rest h.1 stays)
      ]

  some_left : (level id : ℕ) (scoped : List (ℕ × ℕ)) → list_any (is_pair level id) scoped ≡ true
      → is_left down_to level ≡ true → any_left scoped ≡ true
  some_left level id [] there left = absurd (false≢true there)
  some_left level id (pair ∷ rest) there left =
      elim (or_cases (is_pair level id pair) (list_any (is_pair level id) rest) there) [
        | inl here ↦
            let same : pair.0 ≡ level = eqb-true pair.0 level (and_parts (eqb pair.0 level) (eqb pair.1 id) here).0 in
            or_left (is_left down_to pair.0) (any_left rest) (ap (is_left down_to) same ∙ left)
        | inr later ↦ or_right (is_left down_to pair.0) (any_left rest) (some_left level id rest later left)
      ]

  -- where no level is left all clauses stay
  pub scoped_end : (kept : Kept) (scoped : List (ℕ × ℕ)) → AreScoped kept scoped → any_left scoped ≡ false
      → kept_down_to down_to kept ≡ kept
  scoped_end kept scoped h none = all_stay down_to kept (λ id. at id (kept_at kept id) refl)
    where
      at : (id : ℕ) (o : Option KeptClause) → kept_at kept id ≡ o → goes down_to (kept_at kept id) ≡ false
      at id None is = rw is refl
      at id (Some clause) is =
          elim (cases_Bool (is_left down_to clause.level)) [
            | inl left ↦ absurd (false≢true (sym none ∙ some_left clause.level id scoped (h.all id clause is) left))
            | inr not_left ↦ rw is not_left
          ]

  pub same_without : (number : ℕ) (kept : Kept)
      → kept_down_to down_to (without down_to number kept) ≡ kept_down_to down_to kept
  same_without number kept =
      elim (cases_Bool (goes down_to (kept_at kept number))) [
        | inl go ↦ rw go (map-set_same (stays_down_to down_to) kept number None None
            (sym (ap (stays_down_to down_to) (sym (unwrap_or-slice_get kept number None)) ∙ rw go refl)))
        | inr stays ↦ rw stays refl
      ]

  module _ (scoped now : List (ℕ × ℕ)) (number : ℕ) (popped : IsPopped down_to scoped now number) where
    pub fewer : length now < length scoped
    fewer = omega (arith, length_permutation scoped ((popped.highest, number) ∷ now) popped.others)

    -- a pair that was there is still there, or is the one that went
    still : (level id : ℕ) → list_any (is_pair level id) scoped ≡ true
        → ((id ≡ number) × (is_left down_to level ≡ true) → ⊥) → list_any (is_pair level id) now ≡ true
    still level id there other =
        let split : list_any (is_pair level id) ((popped.highest, number) ∷ now) ≡ true =
        sym (list_any-IsPermutation (is_pair level id) scoped ((popped.highest, number) ∷ now) popped.others) ∙ there in
        elim (or_cases (is_pair level id (popped.highest, number)) (list_any (is_pair level id) now) split) [
          | inl here ↦
              let same = and_parts (eqb popped.highest level) (eqb number id) here in
              absurd (other (
                sym (eqb-true number id same.1),
                ap (is_left down_to) (sym (eqb-true popped.highest level same.0)) ∙ popped.is_left,
              ))
          | inr later ↦ later
        ]

    pub scoped_popped : (kept : Kept) → AreScoped kept scoped → AreScoped (without down_to number kept) now
    scoped_popped kept h =
        elim (cases_Bool (goes down_to (kept_at kept number))) [
          | inl go ↦ rw go (record {
            ordered = popped.ordered;
            all = λ id clause there.
                let before = at_emptied kept number id clause there in
                still clause.level id (h.all id clause before.0) (λ same. before.1 same.0);
          })
          | inr stays ↦ rw stays (record {
            ordered = popped.ordered;
            all = λ id clause there.
                still clause.level id (h.all id clause there) (λ both.
                false≢true (sym stays ∙ ap (λ n. goes down_to (kept_at kept n)) (sym both.0)
                ∙ ap (goes down_to) there ∙ both.1));
          })
        ]

-- a pair more
module _ (level number : ℕ) (scoped now : List (ℕ × ℕ)) (more : IsPermutation ((level, number) ∷ scoped) now) where
  pair_there : list_any (is_pair level number) now ≡ true
  pair_there =
      sym (list_any-IsPermutation (is_pair level number) ((level, number) ∷ scoped) now more)
      ∙ or_left (is_pair level number (level, number)) (list_any (is_pair level number) scoped)
      (rw (eq-eqb level level refl, eq-eqb number number refl) refl)

  pub scoped_pushed : KeepsHeap scope_order scoped now → (kept : Kept) → AreScoped kept scoped → AreScoped kept now
  scoped_pushed keeps kept h = record {
    ordered = keeps h.ordered;
    all = λ id clause there.
        sym (list_any-IsPermutation (is_pair clause.level id) ((level, number) ∷ scoped) now more)
        ∙ or_right (is_pair clause.level id (level, number)) (list_any (is_pair clause.level id) scoped)
        (h.all id clause there);
  }

  -- and its clause
  pub scoped_more : KeepsHeap scope_order scoped now → (kept : Kept) (clause : KeptClause) → number ≡ length kept
      → clause.level ≡ level → AreScoped kept scoped → AreScoped (kept ++ Some clause ∷ []) now
  scoped_more keeps kept clause last at h =
      let were = scoped_pushed keeps kept h in
      record {
        ordered = were.ordered;
        all = λ id found there.
            elim (push_cases kept clause id found there) [
              | inl before ↦ were.all id found before
              | inr new ↦
                  let same : number ≡ id = last ∙ sym new.0 in
                  let level_of : level ≡ found.level = sym at ∙ ap (λ (c : KeptClause). c.level) new.1 in
                  rw (← level_of, ← same) pair_there
            ];
      }
