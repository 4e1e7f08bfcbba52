-- The clauses that rows stand for.
use Rattle.std.specs.Prelude.{◌≡◌, ℕ, ◌≤◌, true, false, if◌then◌else◌, List, [], ◌∷◌, map, Option, Some, None, slice_index_or, slice_range, length}
use Rattle.sb_lit.specs.declared.clause.Lit.{Lit}
use Rattle.sb_lit.specs.Kept.{KeptClause, Kept}
use Rattle.sb_hints.specs.declared.rows.Row.{Row}

abbrev pub before_of : Row → Option ℕ
before_of row = row.before

-- what a read past the end gives
abbrev pub no_row : Row
no_row = record { start = 0; end = 0; level = 0; is_kept = false; place = None; before = None; behind = None }

abbrev pub row_at : List Row → ℕ → Row
row_at rows k = slice_index_or rows k no_row

-- the row without its clause
abbrev pub emptied : Row → Row
emptied row = record row { is_kept = false }

-- the row, which leads to this clause
abbrev pub led_to : Option ℕ → Row → Row
led_to before row = record row { before = before }

abbrev pub clause_in : List Lit → Row → KeptClause
clause_in literals row = record { literals = slice_range literals row.start row.end; level = row.level }

abbrev pub place_in : List Lit → Row → Option KeptClause
place_in literals row = if row.is_kept then Some (clause_in literals row) else None

abbrev pub kept_in : List Lit → List Row → Kept
kept_in literals rows = map (place_in literals) rows

-- the literals of a row are there
pub record IsWithin (literals : ℕ) (row : Row) : Type 0 where
  pub ordered : row.start ≤ row.end
  pub inside : row.end ≤ literals

-- those of each kept clause are
abbrev pub AreWithinLength : ℕ → List Row → Type 0
AreWithinLength literals [] = Unit {0}
AreWithinLength literals (row ∷ rows) = (row.is_kept ≡ true → IsWithin literals row) × AreWithinLength literals rows

abbrev pub AreWithin : List Lit → List Row → Type 0
AreWithin literals rows = AreWithinLength (length literals) rows

-- the rows stand for the same clauses
pub record AreSame (old new : List Row) : Type 0 where
  pub kept : (literals : List Lit) → kept_in literals new ≡ kept_in literals old
  pub within : (literals : ℕ) → AreWithinLength literals old → AreWithinLength literals new
