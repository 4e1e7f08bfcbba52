-- Rows, and the clauses that they stand for.
use Rattle.std.proofs.Common.{◌≡◌, ℕ, zero, suc, ◌-◌, ◌<◌, ◌≤◌, Bool, true, false, cond, List, [], ◌∷◌, ◌++◌, length, map, get_or, set, take, drop, Option, Some, None, refl, sym, ◌∙◌, ap, subst, arith}
use Rattle.std.specs.Prelude.{slice_range, option_map}
use Rattle.std.specs.List.{list_all}
use Rattle.std.proofs.Math.Seq.{map-set_same}
use Rattle.std.proofs.lemmas.Bool.{false≢true}
use Rattle.std.proofs.lemmas.List.{take-append-le, drop-append-le, take_all, drop_all, length-drop, length-append, map-set, get_or_default}
use Rattle.std.proofs.lemmas.Option.{none-some}
use Rattle.sb_lit.specs.declared.clause.Lit.{Lit}
use Rattle.sb_lit.specs.Kept.{Kept, KeptClause, kept_at}
use Rattle.sb_hints.specs.declared.rows.Row.{Row}
use Rattle.sb_hints.specs.Listing.{passes, passes_in}
use Rattle.sb_hints.specs.Storing.{before_of, no_row, row_at, emptied, led_to, clause_in, place_in, kept_in, IsWithin, AreWithinLength, AreWithin, AreSame}

-- a row by its number
pub within_at : (n : ℕ) (rows : List Row) (k : ℕ) (d : Row) → AreWithinLength n rows → k < length rows
    → (get_or rows k d).is_kept ≡ true → IsWithin n (get_or rows k d)
within_at n [] k d h inside is_kept = absurd (omega arith)
within_at n (r ∷ rs) zero d h inside is_kept = h.0 is_kept
within_at n (r ∷ rs) (suc k) d h inside is_kept = within_at n rs k d h.1 (omega arith) is_kept

within_row : (n : ℕ) (rows : List Row) (k : ℕ) → AreWithinLength n rows → (row_at rows k).is_kept ≡ true
    → IsWithin n (row_at rows k)
within_row n [] k h is_kept = absurd (false≢true is_kept)
within_row n (r ∷ rs) zero h is_kept = h.0 is_kept
within_row n (r ∷ rs) (suc k) h is_kept = within_row n rs k h.1 is_kept

pub kept_at-row : (literals : List Lit) (rows : List Row) (k : ℕ) (d : Row) → k < length rows
    → kept_at (kept_in literals rows) k ≡ place_in literals (get_or rows k d)
kept_at-row literals [] k d inside = absurd (omega arith)
kept_at-row literals (r ∷ rs) zero d inside = refl
kept_at-row literals (r ∷ rs) (suc k) d inside = kept_at-row literals rs k d (omega arith)

pub kept_at-past : (literals : List Lit) (rows : List Row) (k : ℕ) → length rows ≤ k
    → kept_at (kept_in literals rows) k ≡ None
kept_at-past literals [] k past = refl
kept_at-past literals (r ∷ rs) zero past = absurd (omega arith)
kept_at-past literals (r ∷ rs) (suc k) past = kept_at-past literals rs k (omega arith)

pub before_at : (rows : List Row) (k : ℕ) (d : Row) → k < length rows
    → get_or (map before_of rows) k None ≡ (get_or rows k d).before
before_at [] k d inside = absurd (omega arith)
before_at (r ∷ rs) zero d inside = refl
before_at (r ∷ rs) (suc k) d inside = before_at rs k d (omega arith)

-- more literals
pub slice-grown : (ls more : List Lit) (i j : ℕ) → i ≤ j → j ≤ length ls
    → slice_range (ls ++ more) i j ≡ slice_range ls i j
slice-grown ls more i j ordered inside =
    let fits : j - i ≤ length (drop i ls) = simp length-drop (omega arith) in
    ap (take (j - i)) (drop-append-le i ls more (omega arith)) ∙ take-append-le (j - i) (drop i ls) more fits

pub slice-new : (ls more : List Lit) → slice_range (ls ++ more) (length ls) (length (ls ++ more)) ≡ more
slice-new ls more =
    let n = length ls in
    let m = length (ls ++ more) in
    ap (take (m - n)) (drop-append-le n ls more (omega arith)
    ∙ ap (λ (xs : List Lit). xs ++ more) (drop_all n ls (omega arith)))
    ∙ take_all (m - n) more (omega (arith, length-append ls more))

abbrev whole : List Lit → ℕ → KeptClause
whole literals level = record { literals = literals; level = level }

place-grown : (ls more : List Lit) (row : Row) → (row.is_kept ≡ true → IsWithin (length ls) row)
    → place_in (ls ++ more) row ≡ place_in ls row
place-grown ls more row h = go row.is_kept refl
  where
    go : (b : Bool) → row.is_kept ≡ b → place_in (ls ++ more) row ≡ place_in ls row
    go false is = rw is refl
    go true is =
        let within : IsWithin (length ls) row = h is in
        ap (λ slice. cond row.is_kept (Some (whole slice row.level)) None)
        (slice-grown ls more row.start row.end within.ordered within.inside)

pub kept-grown : (ls more : List Lit) (rows : List Row) → AreWithin ls rows
    → kept_in (ls ++ more) rows ≡ kept_in ls rows
kept-grown ls more [] h = refl
kept-grown ls more (r ∷ rs) h = rw (place-grown ls more r h.0, kept-grown ls more rs h.1) refl

within-grown : (n m : ℕ) (rows : List Row) → n ≤ m → AreWithinLength n rows → AreWithinLength m rows
within-grown n m [] le h = tt
within-grown n m (r ∷ rs) le h = (
  λ is_kept. record { ordered = (h.0 is_kept).ordered; inside = omega (arith, (h.0 is_kept).inside) },
  within-grown n m rs le h.1,
)

pub within-more : (ls more : List Lit) (rows : List Row) → AreWithin ls rows → AreWithin (ls ++ more) rows
within-more ls more rows h = within-grown (length ls) (length (ls ++ more)) rows (omega (
  arith,
  length-append ls
      more,
)) h

pub within_push : (n : ℕ) (rows : List Row) (row : Row) → AreWithinLength n rows → IsWithin n row
    → AreWithinLength n (rows ++ row ∷ [])
within_push n [] row h is = (λ _. is, tt)
within_push n (r ∷ rs) row h is = (h.0, within_push n rs row h.1 is)

-- a row that was read
pub row_there : (rows : List Row) (k : ℕ) (r : Row) → k < length rows → r ≡ get_or rows k r → r ≡ row_at rows k
row_there rows k r inside is = is ∙ sym (get_or_default rows k no_row r inside)

-- rows that stand for the same clauses
pub same-both : (old mid new : List Row) → AreSame old mid → AreSame mid new → AreSame old new
same-both old mid new h next = record {
  kept = λ ls. next.kept ls ∙ h.kept ls;
  within = λ n inside. next.within n (h.within n inside);
}

-- one row for another one
pub within-set : (n : ℕ) (rows : List Row) (k : ℕ) (row : Row) → AreWithinLength n rows
    → (row.is_kept ≡ true → IsWithin n row) → AreWithinLength n (set rows k row)
within-set n [] k row h is = h
within-set n (r ∷ rs) zero row h is = (is, h.1)
within-set n (r ∷ rs) (suc k) row h is = (h.0, within-set n rs k row h.1 is)

-- the same clause in another row
pub same-set : (rows : List Row) (k : ℕ) (row : Row) → row.start ≡ (row_at rows k).start → row.end ≡ (row_at rows k).end
    → row.level ≡ (row_at rows k).level → row.is_kept ≡ (row_at rows k).is_kept → AreSame rows (set rows k row)
same-set rows k row start end level is_kept = record {
  kept = λ ls. map-set_same (place_in ls) rows k row no_row (rw (start, end, level, is_kept) refl);
  within = λ n h. within-set n rows k row h (λ kept.
      let was = within_row n rows k h (sym is_kept ∙ kept) in
      record { ordered = rw (start, end) was.ordered; inside = rw end was.inside });
}

-- a row without its clause
pub kept-emptied : (ls : List Lit) (rows : List Row) (k : ℕ)
    → kept_in ls (set rows k (emptied (row_at rows k))) ≡ set (kept_in ls rows) k None
kept-emptied ls rows k = map-set (place_in ls) rows k (emptied (row_at rows k))

pub before-emptied : (rows : List Row) (k : ℕ)
    → map before_of (set rows k (emptied (row_at rows k))) ≡ map before_of rows
before-emptied rows k = map-set_same before_of rows k (emptied (row_at rows k)) no_row refl

-- a row that leads to another one
pub before-led : (rows : List Row) (k : ℕ) (before : Option ℕ)
    → map before_of (set rows k (led_to before (row_at rows k))) ≡ set (map before_of rows) k before
before-led rows k before = map-set before_of rows k (led_to before (row_at rows k))

-- where no clause is kept
not_kept : (ls : List Lit) (row : Row) → place_in ls row ≡ None → row.is_kept ≡ false
not_kept ls row none = go row.is_kept refl
  where
    go : (b : Bool) → row.is_kept ≡ b → row.is_kept ≡ false
    go true is = absurd (none-some (clause_in ls row) (sym none ∙ rw is refl))
    go false is = is

pub kept-none : (ls more : List Lit) (rows : List Row) → ((id : ℕ) → kept_at (kept_in ls rows) id ≡ None)
    → kept_in more rows ≡ kept_in ls rows
kept-none ls more [] h = refl
kept-none ls more (r ∷ rs) h = rw (kept-none ls more rs (λ id. h (suc id)), not_kept ls r (h 0)) refl

pub within-none : (ls : List Lit) (n : ℕ) (rows : List Row) → ((id : ℕ) → kept_at (kept_in ls rows) id ≡ None)
    → AreWithinLength n rows
within-none ls n [] h = tt
within-none ls n (r ∷ rs) h = (
  λ is_kept. absurd (false≢true (sym (not_kept ls r (h 0)) ∙ is_kept)),
  within-none ls n rs (λ id. h (suc id)),
)

-- the test of a row
module _ (has : Lit → Bool) (literals : List Lit) (rows : List Row) (k : ℕ) (d : Row) (inside : k < length rows) where
  pub row_passes : (get_or rows k d).is_kept ≡ true → passes_in has (kept_in literals rows) k
      ≡ list_all has (slice_range literals (get_or rows k d).start (get_or rows k d).end)
  row_passes is_kept =
      ap (passes has) (kept_at-row literals rows k d inside)
      ∙ ap (λ (b : Bool). passes has (cond b (Some (clause_in literals (get_or rows k d))) None)) is_kept

  pub row_fails : (get_or rows k d).is_kept ≡ false → passes_in has (kept_in literals rows) k ≡ false
  row_fails is_kept =
      ap (passes has) (kept_at-row literals rows k d inside)
      ∙ ap (λ (b : Bool). passes has (cond b (Some (clause_in literals (get_or rows k d))) None)) is_kept

-- the clause of a number
module _ (ls : List Lit) (rows : List Row) (kept : Kept) (k : ℕ) (row : Row) (view : kept_in ls rows ≡ kept)
    (inside : k < length rows) (is : (d : Row) → row ≡ get_or rows k d) where
  place_there : kept_at kept k ≡ place_in ls row
  place_there =
      ap (λ (all : Kept). kept_at all k) (sym view) ∙ kept_at-row ls rows k row inside
      ∙ ap (place_in ls) (sym (is row))

  pub within_there : AreWithin ls rows → row.is_kept ≡ true → IsWithin (length ls) row
  within_there h is_kept =
      subst (IsWithin (length ls)) (sym (is row))
      (within_at (length ls) rows k row h inside (ap (λ (r : Row). r.is_kept) (sym (is row)) ∙ is_kept))

  pub literals_there : row.is_kept ≡ true
      → Some (slice_range ls row.start row.end) ≡ option_map (λ (clause : KeptClause). clause.literals) (kept_at kept k)
  literals_there is_kept = rw (place_there, is_kept) refl

  pub nothing_there : row.is_kept ≡ false
      → None ≡ option_map (λ (clause : KeptClause). clause.literals) (kept_at kept k)
  nothing_there is_kept = rw (place_there, is_kept) refl

pub nothing_past : (ls : List Lit) (rows : List Row) (kept : Kept) (k : ℕ) → kept_in ls rows ≡ kept → length rows ≤ k
    → None ≡ option_map (λ (clause : KeptClause). clause.literals) (kept_at kept k)
nothing_past ls rows kept k view past =
    ap (option_map (λ (clause : KeptClause). clause.literals))
    (sym (ap (λ (all : Kept). kept_at all k) (sym view) ∙ kept_at-past ls rows k past))
