-- Private: what holds of rows, their literals, the lists that they stand in, and the heap of their levels.
use Rattle.std.specs.Prelude.{◌≡◌, List, map, Option, ℕ}
use Rattle.sb_lit.specs.declared.clause.Lit.{Lit}
use Rattle.sb_hints.specs.declared.rows.Row.{Row}
use Rattle.sb_hints.specs.Storing.{AreWithin, before_of, kept_in}
use Rattle.sb_hints.specs.Listing.{AreListed}
use Rattle.sb_hints.specs.Dropping.{AreScoped, kept_down_to}

pub record AreStored (literals : List Lit) (rows : List Row) (lists : Option Lit → Option ℕ) : Type 0 where
  pub within : AreWithin literals rows
  pub listed : AreListed (kept_in literals rows) (map before_of rows) lists

pub record AreInOrder (literals : List Lit) (rows : List Row) (lists : Option Lit → Option ℕ) (heap : List (ℕ × ℕ))
    : Type 0 where
  pub stored : AreStored literals rows lists
  pub scoped : AreScoped (kept_in literals rows) heap

-- some clauses went that go, and all is in order
pub record IsTurn (down_to : Option ℕ) (literals : List Lit) (old new : List Row) (later : Option Lit → Option ℕ)
    (now : List (ℕ × ℕ)) : Type 0 where
  pub same : kept_down_to down_to (kept_in literals new) ≡ kept_down_to down_to (kept_in literals old)
  pub order : AreInOrder literals new later now
