-- The clauses that are kept, by number.
use Rattle.std.specs.Prelude.{ℕ, nat_lt, Bool, false, if◌then◌else◌, List, map, slice_get, Option, Some, None, unwrap_or}
use Rattle.sb_lit.specs.declared.clause.Lit.{Lit}

-- a clause that is kept, and its level
pub record KeptClause : Type 0 where
  pub literals : List Lit
  pub level : ℕ

-- the kept clauses by number; the place of a dropped one is empty
abbrev pub Kept : Type 0
Kept = List (Option KeptClause)

-- the kept clause of the number, none where it is not defined or dropped
abbrev pub kept_at : Kept → ℕ → Option KeptClause
kept_at kept id = unwrap_or (slice_get kept id) None

-- there is a clause, and its level is above this one
abbrev pub is_above : Option KeptClause → ℕ → Bool
is_above None level = false
is_above (Some clause) level = nat_lt level clause.level

-- a clause of a level up to this one stays, and another one leaves its place empty
abbrev pub stays_up_to : ℕ → Option KeptClause → Option KeptClause
stays_up_to level place = if is_above place level then None else place

-- the numbers of the clauses stay as they are
abbrev pub kept_up_to : ℕ → Kept → Kept
kept_up_to level kept = map (stays_up_to level) kept
