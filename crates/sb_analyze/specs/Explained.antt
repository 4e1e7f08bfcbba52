-- Private: what an analysis of a conflict has established, once it has walked the trail down to a front of it.
use Rattle.std.specs.Prelude.{◌≡◌, ℕ, ◌<◌, ◌≤◌, ◌⊎◌, nat_lt, Bool, true, false, ◌&&◌, List, [], ◌∷◌, ◌++◌, count_by, max, unwrap_or, option_map, Some, None}
use Rattle.std.specs.List.{list_all}
use Rattle.std.specs.List.Sorted.{IsPermutation}
use Rattle.sb_lit.specs.declared.clause.Lit.{Lit}
use Rattle.sb_lit.specs.declared.clause.ClauseId.{ClauseId}
use Rattle.sb_lit.specs.Clauses.{negation, is_same_literal, are_ascending, is_among, is_true_under, is_open_under, is_false_clause}
use Rattle.sb_lit.specs.Kept.{Kept, KeptClause, kept_at}
use Rattle.sb_lit.specs.Hints.{hinted, course, ends_false}
use Rattle.sb_trail.specs.declared.assigned.Assigned.{Assigned}
use Rattle.sb_trail.specs.Assignments.{held, entry_of, AreDistinct}
use Rattle.sb_clauses.specs.Propagation.{IsConflict}
use Rattle.sb_analyze.specs.Reasons.{level_in}
use Rattle.sb_analyze.specs.Learning.{is_named}
use Rattle.sb_analyze.specs.Explaining.{Explanation, is_met, is_pending}
use Rattle.sb_analyze.specs.declared.learned.Learned.{Learned}

-- the entry is one of these
abbrev pub Stands : List Assigned → Assigned → Type 0
Stands front entry = entry_of front entry.literal.atom ≡ Some entry

-- Under these literals the clause is false, what is still to be resolved is true, and no atom has a value that is
-- neither in the clause nor in the front.
pub record Suits (front : List Assigned) (s : Explanation) (literals : List Lit) : Type 0 where
  pub lower : is_false_clause literals s.clause ≡ true
  pub higher : (entry : Assigned) → Stands front entry → is_pending s.level s.marks entry ≡ true
      → is_true_under literals entry.literal ≡ true
  pub others : (l : Lit) → is_among s.clause l ≡ false → is_among s.clause (negation l) ≡ false
      → entry_of front l.atom ≡ None → is_open_under literals l ≡ true

-- the hints end in a false clause under literals that suit
pub record IsExplained (kept : Kept) (front : List Assigned) (s : Explanation) : Type 0 where
  pub clauses : List KeptClause
  pub named : hinted kept s.hints ≡ Some clauses
  pub ends : (literals : List Lit) → Suits front s literals → course literals clauses ≡ ends_false

-- no literal is repeated
abbrev pub AreDistinctLiterals : List Lit → Type 0
AreDistinctLiterals ls = (l : Lit) → count_by (λ m. is_same_literal m l) ls ≤ 1

-- The clause has the negations of the entries of lower levels that were met, and the others that were met are counted.
pub record IsMarked (front : List Assigned) (s : Explanation) : Type 0 where
  pub lower : (entry : Assigned) → Stands front entry
      → is_among s.clause (negation entry.literal) ≡ (is_met s.marks entry.literal.atom && nat_lt entry.level s.level)
  pub upright : (entry : Assigned) → Stands front entry → is_among s.clause entry.literal ≡ false
  pub counted : s.pending ≡ count_by (is_pending s.level s.marks) front
  pub distinct : AreDistinctLiterals s.clause

-- each literal of the clause is false on the trail, and of a lower level
abbrev pub AreLower : List Assigned → Explanation → Type 0
AreLower entries s = (is_false_clause (held entries) s.clause ≡ true)
    × (list_all (λ l. nat_lt (level_in entries l) s.level) s.clause ≡ true)

-- What was met on the trail, and what is in the clause, stands in clauses that the hints name.
pub record AreNamed (kept : Kept) (entries : List Assigned) (hints : List ℕ) (marks : ℕ → Bool) (clause : List Lit)
    : Type 0 where
  pub met : (entry : Assigned) → Stands entries entry → is_met marks entry.literal.atom ≡ true
      → is_named kept hints (negation entry.literal) ≡ true
  pub clause_named : list_all (is_named kept hints) clause ≡ true

pub record IsExplaining (kept : Kept) (front : List Assigned) (s : Explanation) : Type 0 where
  pub marked : IsMarked front s
  pub explained : IsExplained kept front s

-- Of the literals that were met none is of a higher level than this one, and some of it are still to be resolved.
pub record IsWalked (kept : Kept) (entries : List Assigned) (level : ℕ) (front : List Assigned) (s : Explanation) : Type
    0 where
  pub here : s.level ≡ level
  pub base : IsExplaining kept front s
  pub lower : AreLower entries s
  pub named : AreNamed kept entries s.hints s.marks s.clause
  pub flat : (entry : Assigned) → Stands front entry → is_pending s.level s.marks entry ≡ true → entry.level ≤ s.level
  pub more : 0 < s.pending

-- only this literal of the level is left: the first unique implication point
pub record IsFirstUip (kept : Kept) (entries : List Assigned) (level : ℕ) (s : Explanation) (left : Lit) : Type 0 where
  pub here : s.level ≡ level
  pub explained : IsExplained kept [] (record s { clause = s.clause ++ negation left ∷ []; pending = 0 })
  pub distinct : AreDistinctLiterals (s.clause ++ negation left ∷ [])
  pub named : list_all (is_named kept s.hints) (s.clause ++ negation left ∷ []) ≡ true
  pub lower : AreLower entries s
  pub is_true : is_true_under (held entries) left ≡ true
  pub at : level_in entries left ≡ level

-- Literals of all levels are resolved down to the front: what passes a test in the clause at the start, and the
-- negations of decisions, are all that is in the clause.
pub record IsTraced (kept : Kept) (entries : List Assigned) (start : Explanation) (front : List Assigned)
    (s : Explanation) : Type 0 where
  pub here : s.level ≡ 0
  pub base : IsExplaining kept front s
  pub named : AreNamed kept entries s.hints s.marks s.clause
  pub decided : (p : Lit → Bool) → list_all p start.clause ≡ true
      → ((entry : Assigned) → Stands entries entry → entry.reason ≡ None → p (negation entry.literal) ≡ true)
      → list_all p s.clause ≡ true

-- the level of the kept clause, 0 where there is no clause
abbrev pub level_at : Kept → ℕ → ℕ
level_at kept id = unwrap_or (option_map (λ clause. clause.level) (kept_at kept id)) 0

-- the greatest level of the clauses
abbrev pub greatest_at : Kept → List ℕ → ℕ
greatest_at kept [] = 0
greatest_at kept (id ∷ ids) = max (level_at kept id) (greatest_at kept ids)

-- the clause in order, with its hints
pub record IsMadeOf (kept : Kept) (s : Explanation) (backjump_level : ℕ) (lesson : Learned) : Type 0 where
  pub permutation : IsPermutation s.clause lesson.clause
  pub ascending : AreDistinctLiterals s.clause → are_ascending lesson.clause ≡ true
  pub hints : lesson.hints ≡ s.hints
  pub scope : lesson.level ≡ greatest_at kept lesson.hints
  pub level : lesson.backjump_level ≡ backjump_level

-- the kept clause is false, or an entry has it for its reason
abbrev pub IsFalseOrReason : Kept → List Assigned → ClauseId → Type 0
IsFalseOrReason kept entries id = IsConflict kept (held entries) id.0
    ⊎ ((entry : Assigned) × Stands entries entry × (entry.reason ≡ Some id))

-- The clause is explained, and has only negations of decisions, and what the clause of the number forces.
pub record IsDecided (kept : Kept) (entries : List Assigned) (id : ClauseId) (lesson : Learned) : Type 0 where
  pub trail : AreDistinct entries
  pub explanation : Explanation
  pub explained : IsExplained kept [] explanation
  pub distinct : AreDistinctLiterals explanation.clause
  pub named : list_all (is_named kept explanation.hints) explanation.clause ≡ true
  pub made : IsMadeOf kept explanation 0 lesson
  pub decided : (p : Lit → Bool)
      → ((entry : Assigned) → Stands entries entry → entry.reason ≡ None → p (negation entry.literal) ≡ true)
      → ((entry : Assigned) → Stands entries entry → entry.reason ≡ Some id → p entry.literal ≡ true)
      → list_all p explanation.clause ≡ true
