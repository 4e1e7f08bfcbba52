-- Laws of what is kept: it is orderly whatever lines follow, so that a number is found by what stands there.
use Rattle.std.specs.Prelude.{◌≡◌, ◌↔◌, ℕ, Bool, true, false, not, ◌&&◌, nat_lt, List, [], ◌∷◌, length, slice_get, Option, Some, None, is_some, Ok}
use Rattle.std.specs.List.{list_all, list_any, position_from}
use Rattle.sb_lit.specs.Clauses.{are_ascending}
use Rattle.sb_lit.specs.Kept.{Kept, KeptClause}
use Rattle.sb_lang.specs.Regex.{Regex}
use Rattle.sb_lang.specs.Order.{regex_eq}
use Rattle.sb_lang.specs.NormalForm.{is_normal}
use Rattle.sb_rulebook.specs.Atoms.{Atom, in_atom, is_well_formed, is_same_atom, number_of}
use Rattle.sb_rulebook.specs.AtomRules.{are_known}
use Rattle.sb_rulebook.specs.Tables.{is_table}
use Rattle.sb_rulebook.specs.Lines.{Line}
use Rattle.sb_rulebook.specs.Reading.{LineText}
use Rattle.sb_rulebook.specs.Kept.{AllKept, Asked, nothing_kept, is_dead, count_again, dropped_above, all_dropped}
use Rattle.sb_rulebook.specs.Splits.{is_dead_regex}
use Rattle.sb_rulebook.specs.Follows.{follows}
use Rattle.sb_rulebook.specs.Judging.{Event, Progress, beginning, meets}
use Rattle.sb_rulebook.specs.JudgingTexts.{takes, along_all}

-- by a test of equals: none is the same as one before it
abbrev pub are_distinct : {A : Type 0} → (A → A → Bool) → List A → Bool
are_distinct same [] = true
are_distinct same (x ∷ xs) = not (list_any (λ y. same y x) xs) && are_distinct same xs

-- the targets of an expansion are below the number
abbrev pub has_targets_below : ℕ → Option (List ℕ) → Bool
has_targets_below n None = true
has_targets_below n (Some targets) = list_all (λ target. nat_lt target n) targets

-- Regexes are normal, and none stands twice. Of each it is kept to which targets it is expanded, which are defined, and
-- whether it is dead.
pub record RegexesAreOrderly (regexes : List Regex) (expansions : List (Option (List ℕ))) (dead : List Bool) :
    Type 0 where
  pub normal : list_all is_normal regexes ≡ true
  pub once : are_distinct regex_eq regexes ≡ true
  pub expanded : length expansions ≡ length regexes
  pub targets : list_all (has_targets_below (length regexes)) expansions ≡ true
  pub died : length dead ≡ length regexes

-- the regex of a membership is one of these
abbrev pub names_regex_of : List Regex → Atom → Bool
names_regex_of regexes (in_atom ps r) = list_any (regex_eq r) regexes
names_regex_of regexes _ = true

-- Atoms are well formed, and none stands twice. Each names only atoms before it, and regexes that are kept.
pub record AtomsAreOrderly (regexes : List Regex) (atoms : List Atom) : Type 0 where
  pub formed : list_all is_well_formed atoms ≡ true
  pub once : are_distinct is_same_atom atoms ≡ true
  pub table : is_table atoms ≡ true
  pub named : list_all (names_regex_of regexes) atoms ≡ true

-- the literals ascend, and are of known atoms
abbrev pub is_orderly_clause : List Atom → Option KeptClause → Bool
is_orderly_clause atoms None = true
is_orderly_clause atoms (Some clause) = are_ascending clause.literals && are_known atoms clause.literals

-- the numbers ascend, from one above this one
abbrev pub rises_above : ℕ → List ℕ → Bool
rises_above n [] = true
rises_above n (m ∷ ms) = nat_lt n m && rises_above m ms

abbrev pub is_rising : List ℕ → Bool
is_rising [] = true
is_rising (n ∷ ns) = rises_above n ns

-- The literals of clauses ascend, and are of known atoms. Of each clause it is kept on which places it rests, which
-- ascend.
pub record ClausesAreOrderly (atoms : List Atom) (clauses : Kept) (rests : List (List ℕ)) : Type 0 where
  pub literals : list_all (is_orderly_clause atoms) clauses ≡ true
  pub resting : length rests ≡ length clauses
  pub rising : list_all is_rising rests ≡ true

pub record IsOrderly (kept : AllKept) : Type 0 where
  pub regexes : RegexesAreOrderly kept.regexes kept.expansions kept.dead
  pub atoms : AtomsAreOrderly kept.regexes kept.atoms
  pub clauses : ClausesAreOrderly kept.atoms kept.clauses kept.rests

-- What is kept is orderly: at first, behind each line that follows, and where levels are left or a verdict is given.

abbrev pub NothingIsOrderly : Type 0
NothingIsOrderly = (format : ℕ) → IsOrderly (nothing_kept format)

abbrev pub LineKeepsOrder : Type 0
LineKeepsOrder = (asked : Asked) (kept after : AllKept) (line : Line) → IsOrderly kept
    → follows asked kept line ≡ Ok after → IsOrderly after

abbrev pub DroppingKeepsOrder : Type 0
DroppingKeepsOrder = (level : ℕ) (kept : AllKept) → IsOrderly kept → IsOrderly (dropped_above level kept)

abbrev pub AllDroppedKeepsOrder : Type 0
AllDroppedKeepsOrder = (kept : AllKept) → IsOrderly kept → IsOrderly (all_dropped kept)

abbrev pub CountingAgainKeepsOrder : Type 0
CountingAgainKeepsOrder = (kept : AllKept) → IsOrderly kept → IsOrderly (count_again kept)

-- So it is along each proof and script: at the beginning, behind each line and behind each event.

abbrev pub BeginningIsOrderly : Type 0
BeginningIsOrderly = IsOrderly beginning.kept

abbrev pub TakingKeepsOrder : Type 0
TakingKeepsOrder = (text : LineText) (p : Progress) → IsOrderly p.kept → IsOrderly (takes text p).kept

abbrev pub MeetingKeepsOrder : Type 0
MeetingKeepsOrder = (e : Event) (p : Progress) → IsOrderly p.kept → IsOrderly (meets e p).kept

abbrev pub ProofsKeepOrder : Type 0
ProofsKeepOrder = (es : List Event) (texts : List LineText) → IsOrderly (along_all beginning es texts).kept

-- What stands at a number has this number, and nothing else has it.

abbrev pub AtomHasItsNumber : Type 0
AtomHasItsNumber = (kept : AllKept) (atom : Atom) (n : ℕ) → IsOrderly kept
    → (number_of kept.atoms atom ≡ Some n) ↔ (slice_get kept.atoms n ≡ Some atom)

abbrev pub number_of_regex : List Regex → Regex → Option ℕ
number_of_regex regexes r = position_from (regex_eq r) 0 regexes

abbrev pub RegexHasItsNumber : Type 0
RegexHasItsNumber = (kept : AllKept) (r : Regex) (n : ℕ) → IsOrderly kept
    → (number_of_regex kept.regexes r ≡ Some n) ↔ (slice_get kept.regexes n ≡ Some r)

-- What has a number is repeated where it is defined.

abbrev pub AtomIsThereByNumber : Type 0
AtomIsThereByNumber = (atoms : List Atom) (atom : Atom)
    → list_any (is_same_atom atom) atoms ≡ is_some (number_of atoms atom)

abbrev pub RegexIsThereByNumber : Type 0
RegexIsThereByNumber = (regexes : List Regex) (r : Regex)
    → list_any (regex_eq r) regexes ≡ is_some (number_of_regex regexes r)

-- A regex is dead where its number is.
abbrev pub RegexIsDeadByNumber : Type 0
RegexIsDeadByNumber = (kept : AllKept) (r : Regex) → IsOrderly kept
    → is_dead_regex kept r ≡ elim (number_of_regex kept.regexes r) [ None ↦ false | Some n ↦ is_dead kept n ]
