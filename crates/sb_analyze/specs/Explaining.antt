-- Private: what an analysis of a conflict knows so far, from the newest literal back.
use Rattle.std.specs.Prelude.{ℕ, ◌+◌, nat_lt, nat_le, Bool, true, false, not, ◌&&◌, ◌||◌, ◌==◌, if◌then◌else◌, List, [], ◌∷◌, ◌++◌, length, slice_index_or, Option, Some, None}
use Rattle.sb_lit.specs.declared.clause.Lit.{Lit}
use Rattle.sb_lit.specs.declared.clause.ClauseId.{ClauseId}
use Rattle.sb_lit.specs.Clauses.{negation, is_false_under}
use Rattle.sb_lit.specs.Kept.{Kept}
use Rattle.sb_trail.specs.declared.assigned.Assigned.{Assigned}
use Rattle.sb_trail.specs.Assignments.{held}
use Rattle.sb_analyze.specs.Reasons.{level_in}
use Rattle.sb_analyze.specs.Learning.{literals_at}

-- Literals of levels below `level` go into the clause, and all others are resolved.
pub record Explanation : Type 0 where
  pub level : ℕ
  -- whether a literal of the atom was met
  pub marks : ℕ → Bool
  -- how many literals were met and are still to be resolved
  pub pending : ℕ
  pub clause : List Lit
  -- the clauses that were resolved, the conflict last
  pub hints : List ℕ

-- nothing is met yet
abbrev pub begun : ℕ → Explanation
begun level = record { level = level; marks = λ atom. false; pending = 0; clause = []; hints = [] }

-- a literal of the atom was met
abbrev pub is_met : (ℕ → Bool) → ℕ → Bool
is_met marks atom = marks atom

-- a literal of the atom is met too
abbrev pub also_met : (ℕ → Bool) → ℕ → ℕ → Bool
also_met marks met atom = if met == atom then true else marks atom

-- the literal of the entry was met and is still to be resolved
abbrev pub is_pending : ℕ → (ℕ → Bool) → Assigned → Bool
is_pending level marks entry = nat_le level entry.level && is_met marks entry.literal.atom

-- a literal that is false and was not met is met
abbrev pub with_literal : List Assigned → Explanation → Lit → Explanation
with_literal entries s l =
    if is_met s.marks l.atom || not (is_false_under (held entries) l) then s
    else if nat_lt (level_in entries l) s.level
    then record s { marks = also_met s.marks l.atom; clause = s.clause ++ l ∷ [] }
    else record s { marks = also_met s.marks l.atom; pending = s.pending + 1 }

abbrev pub with_literals : List Assigned → Explanation → List Lit → Explanation
with_literals entries s [] = s
with_literals entries s (l ∷ ls) = with_literals entries (with_literal entries s l) ls

-- the clause is a hint, and its false literals are met
abbrev pub with_clause : Kept → List Assigned → Explanation → ℕ → Explanation
with_clause kept entries s id = with_literals entries (record s { hints = id ∷ s.hints }) (literals_at kept id)

-- the literal of the entry is resolved with its reason, or stays where it was decided
abbrev pub traced : Kept → List Assigned → Explanation → Assigned → Explanation
traced kept entries s entry =
    elim entry.reason
    [ None ↦ record s { clause = s.clause ++ negation entry.literal ∷ [] } | Some id ↦ with_clause kept entries s id.0 ]

-- the clause forced the literal of the entry
abbrev pub is_forced_by : ClauseId → Assigned → Bool
is_forced_by id entry = elim entry.reason [ None ↦ false | Some reason ↦ reason.0 == id.0 ]

-- what a read past the end of a trail gives
abbrev pub no_entry : Assigned
no_entry = record { literal = record { atom = 0; positive = false }; level = 0; reason = None }

-- with the literal of the entry at the place, if there is one
abbrev pub with_forced : List Assigned → Explanation → Option ℕ → Explanation
with_forced entries s None = s
with_forced entries s (Some place) =
    record s { clause = s.clause ++ (slice_index_or entries place no_entry).literal ∷ [] }

-- the entries before the place, or all
abbrev pub end_before : List Assigned → Option ℕ → ℕ
end_before entries None = length entries
end_before entries (Some place) = place
