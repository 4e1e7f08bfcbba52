-- What a trace knows of a proof, and what a reader of the proof keeps.
use Rattle.std.specs.Prelude.{◌≡◌, ◌⊎◌, ℕ, ◌+◌, ◌<◌, Bool, true, false, nat_eq, List, ◌++◌, length, map, get_or, Option, Some, None, is_some}
use Rattle.std.specs.List.{list_all, position_from, Contains}
use Rattle.sb_lang.specs.Regex.{Regex}
use Rattle.sb_lang.specs.Languages.{Language}
use Rattle.sb_lang.specs.Least.{IsShortestLeast, HasNoWord}
use Rattle.sb_lit.specs.Budgets.{Spending}
use Rattle.sb_regex.specs.Numbered.{regex_at, regexes_at, AllNumbers}
use Rattle.sb_deriv.specs.Faithful.{Memo, entry_of}
use Rattle.sb_deriv.specs.Pieces.{targets_of}
use Rattle.sb_graph.specs.Findings.{is_marked}
use Rattle.sb_rulebook.specs.Kept.{AllKept, Asked, is_dead, targets_in}
use Rattle.sb_trace.specs.Parts.{regex_parts}
use Rattle.sb_trace.specs.Putting.{Puts, defines_regex, IsCounted, KeepsClauses}
use Rattle.sb_trace.specs.declared.trace.Expand.{Expand}
use Rattle.sb_trace.specs.declared.trace.Expand.TheVariants as expand
use Rattle.sb_trace.specs.declared.trace.Explore.{Explore}
use Rattle.sb_trace.specs.declared.trace.Explore.TheVariants as explore

-- what of an arena's regexes stands in a proof
pub record Traced : Type 0 where
  -- by the numbers in the proof the numbers in the arena
  pub order : List ℕ
  -- by the numbers in the proof, whether the regex is expanded, and whether it is dead
  pub expanded : List Bool
  pub dead : List Bool

-- the number in the proof of an arena's regex
abbrev pub number_in : List ℕ → ℕ → Option ℕ
number_in order n = position_from (nat_eq n) 0 order

-- the targets are those of the regex's derivative, in order, by their numbers in the proof
pub record IsExpandedTo (memo : Memo) (order : List ℕ) (n : ℕ) (targets : List ℕ) : Type 0 where
  pub pieces : List (ℕ × ℕ)
  pub derivative : entry_of memo (get_or order n 0) ≡ Some pieces
  pub are : map (number_in order) (targets_of pieces) ≡ map Some targets

-- The reader keeps the regexes of the trace, and of each what the trace knows of it.
pub record Tracks (rs : List Regex) (memo : Memo) (t : Traced) (kept : AllKept) : Type 0 where
  pub numbers : AllNumbers rs t.order
  pub regexes : kept.regexes ≡ regexes_at rs t.order
  pub expansions_long : length kept.expansions ≡ length t.order
  pub dead_long : length kept.dead ≡ length t.order
  pub expanded : (n : ℕ) → is_some (targets_in kept.expansions n) ≡ is_marked t.expanded n
  pub dead : (n : ℕ) → is_dead kept n ≡ is_marked t.dead n
  pub targets : (n : ℕ) (targets : List ℕ) → targets_in kept.expansions n ≡ Some targets
      → IsExpandedTo memo t.order n targets

-- Lines were put that follow, and the reader keeps what the trace knows behind them.
pub record Traces (asked : Asked) (before : AllKept) (rs : List Regex) (memo : Memo) (t : Traced) (budget : Spending)
    (old new : Option (List ℕ)) : Type 0
  where
    pub after : AllKept
    pub puts : Puts asked before after old new
    pub tracks : Tracks rs memo t after
    pub counts : IsCounted asked after budget
    pub keeps : KeepsClauses before after

-- the same where no line was counted
abbrev pub TracesUncounted : Asked → AllKept → List Regex → Memo → Traced → Option (List ℕ) → Option (List ℕ) → Type 0
TracesUncounted asked before rs memo t old new =
    (after : AllKept) × Puts asked before after old new × Tracks rs memo t after × KeepsClauses before after
    × (after.counted ≡ before.counted)

-- And the same where each of the lines defines a regex. What follows defines its parts before it, and none twice.
pub record TracesRegexes (asked : Asked) (before : AllKept) (rs : List Regex) (memo : Memo) (t : Traced)
    (old new : Option (List ℕ)) : Type 0
  where
    pub traced : TracesUncounted asked before rs memo t old new
    pub are : list_all defines_regex traced.1.lines ≡ true

-- the regexes that lack a number where one is to have it: this one, and of each that lacks one the parts that do
pub data IsLackingFor (rs : List Regex) (order : List ℕ) (root : ℕ) : ℕ → Type 0 where
  itself : number_in order root ≡ None → IsLackingFor rs order root root
  of_part : (m n : ℕ) → IsLackingFor rs order root m → Contains (regex_parts (regex_at rs m)) (regex_at rs n)
      → number_in order n ≡ None → IsLackingFor rs order root n

-- each regex that has a number now had one before, or is one of these
abbrev pub AddsLacking : List Regex → List ℕ → ℕ → List ℕ → List ℕ → Type 0
AddsLacking rs first root old new = (n : ℕ) → is_some (number_in new n) ≡ true
    → (is_some (number_in old n) ≡ true) ⊎ IsLackingFor rs first root n

-- the regex is expanded in the proof, or dead there
abbrev pub IsExpandedIn : Traced → ℕ → Type 0
IsExpandedIn t n = (number : ℕ) × (number_in t.order n ≡ Some number) × (is_marked t.expanded number ≡ true)

abbrev pub is_dead_in : Traced → ℕ → Bool
is_dead_in t n = elim (number_in t.order n) [ None ↦ false | Some number ↦ is_marked t.dead number ]

abbrev pub is_expanded_in : Traced → ℕ → Bool
is_expanded_in t n = elim (number_in t.order n) [ None ↦ false | Some number ↦ is_marked t.expanded number ]

-- the line of a regex's expansion was put
abbrev pub is_put : Expand → ℕ → ℕ → Bool
is_put expand.Expanded regex n = nat_eq n regex
is_put expand.Already regex n = false
is_put expand.Spent regex n = false

-- a step of the budget was spent where the line was put, and none else
abbrev pub Spends : Expand → Spending → Spending → Type 0
Spends expand.Expanded old new = (old.spent < old.limit) × (new ≡ record old { spent = old.spent + 1 })
Spends expand.Already old new = new ≡ old
Spends expand.Spent old new = new ≡ old

-- what an exploration says of a language
abbrev pub IsExploring : Language → Explore → Type 0
IsExploring L (explore.Alive word) = IsShortestLeast L word
IsExploring L explore.Dead = HasNoWord L
IsExploring L explore.Spent = Unit {0}

-- what is said where a word was found
abbrev pub IfAlive : Explore → Type 0 → Type 0
IfAlive (explore.Alive word) P = P
IfAlive explore.Dead P = Unit {0}
IfAlive explore.Spent P = Unit {0}

-- the old numbers stay
abbrev pub StaysNumbered : Traced → Traced → Type 0
StaysNumbered old new = (more : List ℕ) × (new.order ≡ old.order ++ more)

-- Regexes get numbers, and no more is known of any: none is expanded that was not, and none is dead.
pub record OnlyNumbers (old new : Traced) : Type 0 where
  pub stays : StaysNumbered old new
  pub expanded : (n : ℕ) → is_marked new.expanded n ≡ is_marked old.expanded n
  pub dead : (n : ℕ) → is_marked new.dead n ≡ is_marked old.dead n
