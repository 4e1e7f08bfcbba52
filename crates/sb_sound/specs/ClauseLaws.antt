-- Which lines that give a clause are accepted.
use Rattle.std.specs.Prelude.{◌≡◌, ◌↔◌, ℕ, ◌+◌, ◌<◌, true, false, List, [], ◌∷◌, length, slice_get, Some, Ok, Contains}
use Rattle.sb_lit.specs.declared.clause.Lit.{Lit}
use Rattle.sb_meaning.specs.Terms.{Term}
use Rattle.sb_rulebook.specs.Atoms.{Atom}
use Rattle.sb_rulebook.specs.Translation.{translation}
use Rattle.sb_rulebook.specs.Lines.{Rule, gate, order, linear, step, empty}
use Rattle.sb_rulebook.specs.Kept.{AllKept, Asked, most_counted, with_clause, rests_of_any}
use Rattle.sb_script.specs.Brought.{a_statement_of, is_brought}
use Rattle.sb_rulebook.specs.ClauseRules.{is_counted, follows_rule, follows_assertion, follows_learned}
use Rattle.sb_sound.specs.GateLaws.{IsGate}
use Rattle.sb_sound.specs.BoundLaws.{IsOrder}
use Rattle.sb_sound.specs.LinearLaws.{IsLinear}
use Rattle.sb_sound.specs.MembershipLaws.{IsStep, IsEmpty}
use Rattle.sb_sound.specs.HintLaws.{Ascend, HasNoSubset, IsByHints}

-- each literal is of an atom that is defined
abbrev pub AreDefined : List Atom → List Lit → Type 0
AreDefined atoms clause = (l : Lit) → Contains clause l → l.atom < length atoms

-- fewer lines are counted than the limit allows, and this line counts
abbrev pub CountsOne : Asked → AllKept → AllKept → Type 0
CountsOne asked kept after = (kept.counted < most_counted asked) × (after ≡ record kept { counted = kept.counted + 1 })

-- the clause is of a form of the rule
abbrev pub IsOfRule : AllKept → Rule → List Lit → Type 0
IsOfRule kept gate clause = IsGate kept.atoms clause
IsOfRule kept order clause = IsOrder kept.atoms clause
IsOfRule kept linear clause = IsLinear kept.atoms clause
IsOfRule kept step clause = IsStep kept.atoms clause
IsOfRule kept empty clause = IsEmpty kept clause

-- A clause by a rule has the level 0 and rests on nothing. By a rule that is counted it is new.
pub record IsByRule (asked : Asked) (kept after : AllKept) (rule : Rule) (clause : List Lit) : Type 0 where
  pub defined : AreDefined kept.atoms clause
  pub ascend : Ascend clause
  pub form : IsOfRule kept rule clause
  pub new : is_counted rule ≡ true → HasNoSubset kept.clauses clause
  pub counts : is_counted rule ≡ true → CountsOne asked (with_clause kept clause 0 []) after
  pub is_free : is_counted rule ≡ false → after ≡ with_clause kept clause 0 []

abbrev pub RuleLinesAreExact : Type 0
RuleLinesAreExact = (asked : Asked) (kept after : AllKept) (rule : Rule) (clause : List Lit)
    → (follows_rule asked kept rule clause ≡ Ok after) ↔ IsByRule asked kept after rule clause

-- A learned clause has the greatest level of its hints, and rests on what they rest on.
pub record IsLearnedLine (asked : Asked) (kept after : AllKept) (clause : List Lit) (ids : List ℕ) : Type 0 where
  pub defined : AreDefined kept.atoms clause
  pub level : ℕ
  pub by_hints : IsByHints kept.clauses clause ids level
  pub counts : CountsOne asked (with_clause kept clause level (rests_of_any kept ids)) after

abbrev pub LearnedLinesAreExact : Type 0
LearnedLinesAreExact = (asked : Asked) (kept after : AllKept) (clause : List Lit) (ids : List ℕ)
    → (follows_learned asked kept clause ids ≡ Ok after) ↔ IsLearnedLine asked kept after clause ids

-- An assertion's clause is the literal of its term, has its level, and rests on it. The assertion is of a form that is
-- brought.
pub record IsAssertionLine (asked : Asked) (kept after : AllKept) (place : ℕ) (l : Lit) : Type 0 where
  pub term : Term
  pub level : ℕ
  pub live : slice_get asked.live place ≡ Some (Some term, level)
  pub stated : is_brought (a_statement_of term) ≡ true
  pub defined : l.atom < length kept.atoms
  pub literal : translation kept.atoms term ≡ Some l
  pub is_kept : after ≡ with_clause kept (l ∷ []) level (place ∷ [])

abbrev pub AssertionLinesAreExact : Type 0
AssertionLinesAreExact = (asked : Asked) (kept after : AllKept) (place : ℕ) (l : Lit)
    → (follows_assertion asked kept place l ≡ Ok after) ↔ IsAssertionLine asked kept after place l
