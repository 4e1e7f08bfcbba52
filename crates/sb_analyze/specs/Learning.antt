-- What a conflict teaches: an asserting clause by the rule of learned clauses, and the backjump level.
use Rattle.std.specs.Prelude.{◌≡◌, ℕ, ◌-◌, ◌<◌, Bool, true, false, ◌||◌, nat_le, List, [], Some, None, Ok}
use Rattle.std.specs.List.{list_all, list_any}
use Rattle.sb_lit.specs.declared.clause.Lit.{Lit}
use Rattle.sb_lit.specs.Clauses.{is_same_literal, is_among, is_false_clause, leaves_only}
use Rattle.sb_lit.specs.Kept.{Kept, KeptClause, kept_at}
use Rattle.sb_lit.specs.Hints.{learned}
use Rattle.sb_trail.specs.declared.assigned.Assigned.{Assigned}
use Rattle.sb_trail.specs.Assignments.{held, current_level, up_to}
use Rattle.sb_clauses.specs.Propagation.{IsSettled}
use Rattle.sb_analyze.specs.Reasons.{level_in, highest}
use Rattle.sb_analyze.specs.declared.learned.Learned.{Learned}

-- two different literals of the level stand in the clause
pub record HasTwoOf (entries : List Assigned) (clause : List Lit) (level : ℕ) : Type 0 where
  pub one : Lit
  pub other : Lit
  pub one_there : is_among clause one ≡ true
  pub other_there : is_among clause other ≡ true
  pub differ : is_same_literal one other ≡ false
  pub one_level : level_in entries one ≡ level
  pub other_level : level_in entries other ≡ level

-- The kept clause is false, two of its literals are of its highest level, which is above 0, and no kept clause is false
-- or leaves one literal on the levels below.
pub record IsTeaching (kept : Kept) (entries : List Assigned) (id : ℕ) (clause : KeptClause) : Type 0 where
  pub there : kept_at kept id ≡ Some clause
  pub is_false : is_false_clause (held entries) clause.literals ≡ true
  pub above : 0 < highest entries clause.literals
  pub two : HasTwoOf entries clause.literals (highest entries clause.literals)
  pub settled : IsSettled kept (held (up_to (highest entries clause.literals - 1) entries))

-- the literals of the kept clause, none where there is no clause
abbrev pub literals_at : Kept → ℕ → List Lit
literals_at kept id = elim (kept_at kept id) [ None ↦ [] | Some clause ↦ clause.literals ]

-- the literal stands in a clause that a hint names
abbrev pub is_named : Kept → List ℕ → Lit → Bool
is_named kept hints l = list_any (λ id. is_among (literals_at kept id) l) hints

-- The rule of learned clauses accepts the clause by its hints; so no kept clause is a subset, and the level is the
-- greatest of the hints'. Each literal stands in a clause that a hint names.
pub record IsLesson (kept : Kept) (clause : List Lit) (hints : List ℕ) (level : ℕ) : Type 0 where
  pub accepted : learned kept clause hints ≡ Ok level
  pub named : list_all (is_named kept hints) clause ≡ true

-- The clause is accepted and false on the trail. One literal, the negation of the first unique implication point, is of
-- the conflict's level, and all others are of levels up to the backjump level: from there on the clause leaves that
-- literal, and on no level below.
pub record IsAsserting (kept : Kept) (entries : List Assigned) (level : ℕ) (lesson : Learned) : Type 0 where
  pub is_lesson : IsLesson kept lesson.clause lesson.hints lesson.level
  pub is_false : is_false_clause (held entries) lesson.clause ≡ true
  pub asserted : Lit
  pub asserted_level : level_in entries asserted ≡ level
  pub others : list_all (λ l. is_same_literal l asserted || nat_le (level_in entries l) lesson.backjump_level)
      lesson.clause ≡ true
  pub below : lesson.backjump_level < level
  pub leaves : leaves_only (held (up_to lesson.backjump_level entries)) lesson.clause asserted ≡ true
  pub lowest : (n : ℕ) → n < lesson.backjump_level
      → leaves_only (held (up_to n entries)) lesson.clause asserted ≡ false

-- no kept clause is false or leaves one literal on the levels below the current one
abbrev pub IsSettledBelow : Kept → List Assigned → Type 0
IsSettledBelow kept entries = (n : ℕ) → n < current_level entries → IsSettled kept (held (up_to n entries))
