-- Private: how clauses are listed, each under one of its literals or under none.
use Rattle.std.specs.Prelude.{◌≡◌, ◌==◌, ℕ, ◌<◌, zero, suc, Bool, true, false, ◌&&◌, ◌||◌, List, length, Option, Some, None, slice_index_or, if◌then◌else◌}
use Rattle.std.specs.List.{list_all}
use Rattle.std.specs.HashMap.{HashMap, get}
use Rattle.sb_lit.specs.declared.clause.Lit.{Lit}
use Rattle.sb_lit.specs.Clauses.{is_among}
use Rattle.sb_lit.specs.Kept.{KeptClause, Kept, kept_at}
pub use Rattle.sb_hints.specs.Sets.{are_equal}
use Rattle.sb_hints.specs.declared.lists.Listed.{Listed}

abbrev pub newest_in : Option Listed → Option ℕ
newest_in None = None
newest_in (Some list) = list.last

-- the newest clause that is listed under a literal
abbrev pub last_of : {S : Type 0} → HashMap Lit Listed S → Lit → Option ℕ
last_of lists l = newest_in (get are_equal lists l)

-- the newest clause that is listed under a literal, or under none
abbrev pub last_at : {S : Type 0} → HashMap Lit Listed S → Option ℕ → Option Lit → Option ℕ
last_at lists bare None = bare
last_at lists bare (Some l) = last_of lists l

-- a clause is listed behind the others
abbrev pub put_at : Option Lit → ℕ → (Option Lit → Option ℕ) → Option Lit → Option ℕ
put_at None id lists None = Some id
put_at None id lists (Some m) = lists (Some m)
put_at (Some l) id lists None = lists None
put_at (Some l) id lists (Some m) = if are_equal l m then Some id else lists (Some m)

-- the list of a place that begins with this clause begins with the one before it
abbrev pub passed_at : ℕ → Option ℕ → Option ℕ → Option ℕ
passed_at id before None = None
passed_at id before (Some newest) = if newest == id then before else Some newest

abbrev pub begun_at : Option Lit → ℕ → Option ℕ → (Option Lit → Option ℕ) → Option Lit → Option ℕ
begun_at None id before lists None = passed_at id before (lists None)
begun_at None id before lists (Some m) = lists (Some m)
begun_at (Some l) id before lists None = lists None
begun_at (Some l) id before lists (Some m) = if are_equal l m then passed_at id before (lists (Some m))
    else lists (Some m)

-- a clause may be listed here
abbrev pub IsPlace : List Lit → Option Lit → Type 0
IsPlace literals None = Unit {0}
IsPlace literals (Some l) = is_among literals l ≡ true

abbrev pub IsBelow : ℕ → Option ℕ → Type 0
IsBelow n None = Unit {0}
IsBelow n (Some k) = k < n

-- how many clauses may be on the way
abbrev pub steps_of : Option ℕ → ℕ
steps_of None = 0
steps_of (Some k) = suc k

-- each clause leads to one before it
abbrev pub AreLinked : List (Option ℕ) → Type 0
AreLinked before = (k : ℕ) → IsBelow k (slice_index_or before k None)

-- one of the clauses on the way passes, in so many steps
abbrev pub on_list : (ℕ → Bool) → List (Option ℕ) → ℕ → Option ℕ → Bool
on_list p before zero next = false
on_list p before (suc n) None = false
on_list p before (suc n) (Some k) = p k || on_list p before n (slice_index_or before k None)

-- there is a clause, and each of its literals passes
abbrev pub passes : (Lit → Bool) → Option KeptClause → Bool
passes has None = false
passes has (Some clause) = list_all has clause.literals

abbrev pub passes_in : (Lit → Bool) → Kept → ℕ → Bool
passes_in has kept id = passes has (kept_at kept id)

-- a clause is found in a list
pub record IsListed (before : List (Option ℕ)) (lists : Option Lit
    → Option ℕ) (literals : List Lit) (id : ℕ) : Type 0 where
  pub place : Option Lit
  pub fits : IsPlace literals place
  pub found : (p : ℕ → Bool) → p id ≡ true → on_list p before (length before) (lists place) ≡ true

-- each clause is found in a list
pub record AreListed (kept : Kept) (before : List (Option ℕ)) (lists : Option Lit → Option ℕ) : Type 0 where
  pub linked : AreLinked before
  pub below : (place : Option Lit) → IsBelow (length before) (lists place)
  pub listed : (id : ℕ) (clause : KeptClause) → kept_at kept id ≡ Some clause
      → IsListed before lists clause.literals id
