-- What is kept stays true, line by line, and a verdict that follows from it means so.
use Rattle.std.specs.Prelude.{◌≡◌, ℕ, ◌≤◌, length, true, List, Option, Some, None, Ok, Contains, slice_get, false}
use Rattle.std.specs.List.{list_all}
use Rattle.sb_lit.specs.Kept.{KeptClause, kept_at}
use Rattle.sb_meaning.specs.Terms.{Term}
use Rattle.sb_meaning.specs.Values.{Valuation}
use Rattle.sb_meaning.specs.Truth.{holds}
use Rattle.sb_script.specs.State.{Assumption}
use Rattle.sb_rulebook.specs.Atoms.{clause_holds}
use Rattle.sb_rulebook.specs.AtomRules.{are_known}
use Rattle.sb_rulebook.specs.Lines.{Line, Said, said_sat, said_unsat, said_unknown, said_unsupported}
use Rattle.sb_rulebook.specs.Kept.{AllKept, Asked, nothing_kept, count_again, dropped_above, all_dropped, rests_of}
use Rattle.sb_rulebook.specs.Follows.{by_rule, follows}
use Rattle.sb_rulebook.specs.Verdicts.{denied_by, Question, assumption_holds, refusal_of}
use Rattle.sb_sound.specs.Tables.{is_table, HasWords}
use Rattle.sb_sound.specs.TermLaws.{HasSorts, fits_sorts}
use Rattle.sb_sound.specs.MembershipLaws.{AreEmpty}
use Rattle.sb_sound.specs.DeadLaws.{AreRight}
use Rattle.sb_sound.specs.VerdictLaws.{IsModel, IsCounted}

-- the live assertions of levels up to this one are true
abbrev pub LevelsHold : Valuation → List (Option Term × ℕ) → ℕ → Type 0
LevelsHold v live level =
    (a : Option Term × ℕ) (t : Term) → Contains live a → a.0 ≡ Some t → a.1 ≤ level → holds t v ≡ true

-- the live assertions at these places are true
abbrev pub PlacesHold : Valuation → List (Option Term × ℕ) → List ℕ → Type 0
PlacesHold v live places =
    (place : ℕ) (a : Option Term × ℕ) (t : Term) → Contains places place → slice_get live place ≡ Some a
    → a.0 ≡ Some t → holds t v ≡ true

-- a live assertion of a level up to this one stands at the place
pub record StandsAt (live : List (Option Term × ℕ)) (level place : ℕ) : Type 0 where
  pub assertion : Option Term × ℕ
  pub there : slice_get live place ≡ Some assertion
  pub low : assertion.1 ≤ level

-- each live assertion fits the sorts of the constants
abbrev pub AreTerms : Asked → Type 0
AreTerms asked =
    (a : Option Term × ℕ) (t : Term) → Contains asked.live a → a.0 ≡ Some t → fits_sorts asked.sorts t ≡ true

-- What is kept is true: a clause of a level holds under every valuation that makes the live assertions up to that level
-- true, whatever it gives the constants of the higher ones.
pub record IsSound (asked : Asked) (kept : AllKept) : Type 0 where
  pub table : is_table kept.atoms ≡ true
  pub right : AreRight kept.regexes kept.expansions
  pub empty : AreEmpty kept.regexes kept.dead
  -- for each regex it is kept whether it is expanded or dead, and for each clause on what it rests
  pub expanded : length kept.expansions ≡ length kept.regexes
  pub died : length kept.dead ≡ length kept.regexes
  pub resting : length kept.rests ≡ length kept.clauses
  pub known : (id : ℕ) (clause : KeptClause) → kept_at kept.clauses id ≡ Some clause
      → are_known kept.atoms clause.literals ≡ true
  pub clauses : (id : ℕ) (clause : KeptClause) → kept_at kept.clauses id ≡ Some clause → (v : Valuation)
      → HasWords v → HasSorts v asked.sorts → LevelsHold v asked.live clause.level
      → clause_holds v kept.atoms clause.literals ≡ true
  -- the assertions on which a clause rests are live, and of levels up to its own, and where they are true the clause is
  pub places : (id : ℕ) (clause : KeptClause) → kept_at kept.clauses id ≡ Some clause → (place : ℕ)
      → Contains (rests_of kept id) place → StandsAt asked.live clause.level place
  pub rested : (id : ℕ) (clause : KeptClause) → kept_at kept.clauses id ≡ Some clause → (v : Valuation)
      → HasWords v → HasSorts v asked.sorts → PlacesHold v asked.live (rests_of kept id)
      → clause_holds v kept.atoms clause.literals ≡ true

-- at first nothing is kept
abbrev pub NothingIsSound : Type 0
NothingIsSound = (asked : Asked) (format : ℕ) → IsSound asked (nothing_kept format)

-- each line by the rule of its kind, brought or not
abbrev pub LineStaysSound : Type 0
LineStaysSound = (asked : Asked) (kept after : AllKept) (line : Line) → AreTerms asked → IsSound asked kept
    → by_rule asked kept line ≡ Ok after → IsSound asked after

-- what follows is by the rule of its kind
abbrev pub FollowsByRule : Type 0
FollowsByRule = (asked : Asked) (kept after : AllKept) (line : Line) → follows asked kept line ≡ Ok after
    → by_rule asked kept line ≡ Ok after

-- constants are declared, and keep their sorts
abbrev pub KeepsSorts : Asked → Asked → Type 0
KeepsSorts before now = (v : Valuation) → HasSorts v now.sorts → HasSorts v before.sorts

-- the script goes on: assertions are made, and those that are live stay, each at its place
pub record Continues (before now : Asked) : Type 0 where
  pub sorts : KeepsSorts before now
  pub live : (place : ℕ) (a : Option Term × ℕ) → slice_get before.live place ≡ Some a
      → slice_get now.live place ≡ Some a

abbrev pub ContinuedStaysSound : Type 0
ContinuedStaysSound = (before now : Asked) (kept : AllKept) → Continues before now → IsSound before kept
    → IsSound now kept

-- the script goes on where levels are left: those of levels up to this one stay
pub record GoesOn (level : ℕ) (before now : Asked) : Type 0 where
  pub sorts : KeepsSorts before now
  pub live : (place : ℕ) (a : Option Term × ℕ) → slice_get before.live place ≡ Some a → a.1 ≤ level
      → slice_get now.live place ≡ Some a

-- the levels above one are left
abbrev pub DroppedStaysSound : Type 0
DroppedStaysSound = (level : ℕ) (before now : Asked) (kept : AllKept) → GoesOn level before now → IsSound before kept
    → IsSound now (dropped_above level kept)

-- all assertions are left
abbrev pub AllDroppedIsSound : Type 0
AllDroppedIsSound = (before now : Asked) (kept : AllKept) → IsSound before kept → IsSound now (all_dropped kept)

-- a verdict is given
abbrev pub CountedAgainStaysSound : Type 0
CountedAgainStaysSound = (asked : Asked) (kept : AllKept) → IsSound asked kept → IsSound asked (count_again kept)

-- no valuation of the sorts, with words of characters, makes each live assertion and each of these assumptions true
abbrev pub AreContradicted : Question → List Assumption → Type 0
AreContradicted q assumptions = (v : Valuation) → HasWords v → HasSorts v q.asked.sorts
    → ((level : ℕ) → LevelsHold v q.asked.live level) → list_all (assumption_holds v) assumptions ≡ true → ⊥

-- nor the live assertions at these places alone
abbrev pub AreContradictedAt : Question → List ℕ → List Assumption → Type 0
AreContradictedAt q places assumptions = (v : Valuation) → HasWords v → HasSorts v q.asked.sorts
    → PlacesHold v q.asked.live places → list_all (assumption_holds v) assumptions ≡ true → ⊥

-- what an `unsat` means
pub record IsUnsat (q : Question) (kept : AllKept) (id : ℕ) (places : Option (List ℕ)) : Type 0 where
  pub inside : q.inside ≡ true
  pub all : AreContradicted q q.assumptions
  -- the assumptions that the clause denies are contradicted alone, by what it rests on alone
  pub clause : KeptClause
  pub there : kept_at kept.clauses id ≡ Some clause
  pub core : AreContradicted q (denied_by q kept clause)
  pub rests : AreContradictedAt q (rests_of kept id) (denied_by q kept clause)
  -- that is what is listed, where anything is
  pub listed : (listed : List ℕ) → places ≡ Some listed → listed ≡ rests_of kept id

-- what a verdict means
abbrev pub MeansSo : Question → AllKept → Said → Type 0
MeansSo q kept (said_unsat id places) = IsUnsat q kept id places
MeansSo q kept (said_sat values) = IsModel q values
MeansSo q kept (said_unknown n) = IsCounted q kept n
MeansSo q kept said_unsupported = q.inside ≡ false

abbrev pub VerdictMeansSo : Type 0
VerdictMeansSo = (q : Question) (kept : AllKept) (said : Said) → IsSound q.asked kept
    → refusal_of q kept said ≡ None → MeansSo q kept said
