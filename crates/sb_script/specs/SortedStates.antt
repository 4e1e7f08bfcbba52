-- States in which everything is well sorted: each state that a script leads to is one.
use Rattle.std.specs.Prelude.{◌≡◌, Bool, true, ◌&&◌, List, []}
use Rattle.std.specs.List.{list_all}
use Rattle.sb_reader.specs.Entries.{Entry}
use Rattle.sb_meaning.specs.Terms.{Sort}
use Rattle.sb_script.specs.State.{State, Level, terms_in, live_terms, start_behind}
use Rattle.sb_script.specs.Steps.{Step, answers, leaves, checks, exits}
use Rattle.sb_script.specs.Replies.{step_of}
use Rattle.sb_script.specs.WellSorted.{is_well_sorted}
use Rattle.sb_script.specs.ReadingLaws.{is_sorted_naming}

-- what its names stand for is well sorted, and so are its assertions
abbrev pub is_sorted_level : Level → Bool
is_sorted_level l = list_all (is_sorted_naming []) l.names && list_all is_well_sorted (terms_in l.assertions)

abbrev pub is_sorted_state : State → Bool
is_sorted_state s = is_sorted_level s.first && list_all is_sorted_level s.above

-- the state behind the step, where there is a new one
abbrev pub is_sorted_behind : Step → Bool
is_sorted_behind (answers text new) = is_sorted_state new
is_sorted_behind (leaves what text new) = is_sorted_state new
is_sorted_behind (checks assumptions) = true
is_sorted_behind (exits text) = true

abbrev pub StartIsSorted : Type 0
StartIsSorted = (sorts : List Sort) → is_sorted_state (start_behind sorts) ≡ true

abbrev pub EntriesKeepSorts : Type 0
EntriesKeepSorts = (entry : Entry) (s : State) → is_sorted_state s ≡ true → is_sorted_behind (step_of entry s) ≡ true

-- the premise of what is said of the live terms
abbrev pub LiveAreWellSorted : Type 0
LiveAreWellSorted = (s : State) → is_sorted_state s ≡ true → list_all is_well_sorted (live_terms s) ≡ true
