-- Learned clauses, by their hints.
use Rattle.std.specs.Prelude.{ℕ, max, Bool, true, false, not, ◌&&◌, if◌then◌else◌, List, [], ◌∷◌, map, filter, Option, Some, None, option_map, Result, Ok, Err}
use Rattle.std.specs.List.{list_all, list_any}
use Rattle.sb_lit.specs.declared.clause.Lit.{Lit}
use Rattle.sb_lit.specs.Clauses.{negation, is_same_literal, are_ascending, are_among, is_false_under, is_open_under}
use Rattle.sb_lit.specs.Kept.{KeptClause, Kept, kept_at}

-- A clause is learned by hints, the numbers of kept clauses: where all its literals are
-- taken to be false, each hint forces one more literal to be true, and the last one is false (reverse unit
-- propagation).

-- the kept clauses that the hints name, none where one of them names none
abbrev pub hinted : Kept → List ℕ → Option (List KeptClause)
hinted kept [] = Some []
hinted kept (id ∷ ids) =
    elim (kept_at kept id) [ None ↦ None | Some clause ↦ option_map (λ clauses. clause ∷ clauses) (hinted kept ids) ]

-- a kept clause has only literals of the clause
abbrev pub has_only : List Lit → Option KeptClause → Bool
has_only clause None = false
has_only clause (Some kept) = are_among kept.literals clause

-- some kept clause is a subset of the clause
abbrev pub is_repeated : Kept → List Lit → Bool
is_repeated kept clause = list_any (has_only clause) kept

-- what a clause gives where some literals are true
pub data Finding : Type 0 where
  -- all its literals are false
  falsified : Finding
  -- all its literals but this one are false, and this one has no value
  forces : Lit → Finding
  -- neither
  idle : Finding

-- the same, from those of its literals that are not false
abbrev pub finding_of_rest : List Lit → List Lit → Finding
finding_of_rest held [] = falsified
finding_of_rest held (l ∷ rest) = if is_open_under held l && list_all (is_same_literal l) rest then forces l else idle

abbrev pub finding : List Lit → List Lit → Finding
finding held clause = finding_of_rest held (filter (λ l. not (is_false_under held l)) clause)

-- what hints give in order
pub data Course : Type 0 where
  -- each forces a literal but the last one, which is false
  ends_false : Course
  -- each forces a literal
  stays_open : Course
  -- one neither forces a literal nor is false, or stands behind one that is false
  has_idle_hint : Course

abbrev pub course : List Lit → List KeptClause → Course
course held [] = stays_open
course held (clause ∷ clauses) =
    elim (finding held clause.literals) [
      | falsified ↦ elim clauses [ [] ↦ ends_false | _ ∷ _ ↦ has_idle_hint ]
      | forces l ↦ course (l ∷ held) clauses
      | idle ↦ has_idle_hint
    ]

-- the greatest level of the clauses
abbrev pub greatest_level : List KeptClause → ℕ
greatest_level [] = 0
greatest_level (clause ∷ clauses) = max clause.level (greatest_level clauses)

-- why a clause is not learned by its hints
pub data Unlearned : Type 0 where
  -- a hint names no kept clause
  unknown_hint : Unlearned
  -- some kept clause is a subset of the clause
  repeated_clause : Unlearned
  -- a hint neither forces a literal nor is false, or stands behind one that is false
  idle_hint : Unlearned
  -- the last hint is not false, or the literals do not ascend
  not_by_hints : Unlearned

-- the level of a clause that the course of its hints allows
abbrev pub level_by : Course → List Lit → List KeptClause → Result ℕ Unlearned
level_by ends_false clause hints = if are_ascending clause then Ok (greatest_level hints) else Err not_by_hints
level_by stays_open clause hints = Err not_by_hints
level_by has_idle_hint clause hints = Err idle_hint

-- the level of a clause that is learned by these hints, or why it is not
abbrev pub learned : Kept → List Lit → List ℕ → Result ℕ Unlearned
learned kept clause ids =
    elim (hinted kept ids) [
      | None ↦ Err unknown_hint
      | Some hints ↦ if is_repeated kept clause then Err repeated_clause
          else level_by (course (map negation clause) hints) clause hints
    ]
