-- Lines of a proof that are put on a tape, each of which follows from what is kept before it.
use Rattle.std.specs.Prelude.{◌≡◌, ℕ, ◌<◌, ◌≤◌, Bool, true, false, List, [], ◌∷◌, map, Option, Result, Ok, Err}
use Rattle.std.specs.List.{list_all}
use Rattle.sb_lit.specs.Budgets.{Spending}
use Rattle.sb_rulebook.specs.Refusals.{Refusal}
use Rattle.sb_rulebook.specs.Lines.{Line, regex_line, text_of}
use Rattle.sb_rulebook.specs.LineLaws.{has_text, bytes_of}
use Rattle.sb_rulebook.specs.Kept.{AllKept, Asked, most_counted}
use Rattle.sb_rulebook.specs.Follows.{follows}
use Rattle.sb_proof.specs.declared.tape.TapeFault.{TapeFault}
use Rattle.sb_proof.specs.declared.tape.TapeFault.TheVariants as fault
use Rattle.sb_proof.specs.Tapes.{with_bytes, Rose}

-- what is kept behind lines, each of which follows from what is kept before it
abbrev pub follow_all : Asked → AllKept → List Line → Result AllKept Refusal
follow_all asked kept [] = Ok kept
follow_all asked kept (line ∷ lines) =
    elim (follows asked kept line) [ Ok after ↦ follow_all asked after lines | Err refusal ↦ Err refusal ]

-- Behind what a tape tells there are lines more, which have a text, and lead from what is kept to what is kept.
pub record Puts (asked : Asked) (before after : AllKept) (old new : Option (List ℕ)) : Type 0 where
  pub lines : List Line
  pub have_text : list_all has_text lines ≡ true
  pub told : new ≡ with_bytes (bytes_of (map text_of lines)) old
  pub follow : follow_all asked before lines ≡ Ok after

-- the line defines a regex
abbrev pub defines_regex : Line → Bool
defines_regex (regex_line node) = true
defines_regex _ = false

-- A budget spends a step for each line that is counted, up to the limit in force.
pub record IsCounted (asked : Asked) (kept : AllKept) (budget : Spending) : Type 0 where
  pub spent : kept.counted ≡ budget.spent
  pub limit : most_counted asked ≡ budget.limit

-- A budget of which as much is spent, or more, and that within its limit.
pub record SpendsWithin (old new : Spending) : Type 0 where
  pub limit : new.limit ≡ old.limit
  pub spent : old.spent ≤ new.spent
  pub within : old.spent < new.spent → new.spent ≤ new.limit

-- nothing but regexes, expansions, dead marks and the count is other than before
pub record KeepsClauses (before after : AllKept) : Type 0 where
  pub format : after.format ≡ before.format
  pub atoms : after.atoms ≡ before.atoms
  pub clauses : after.clauses ≡ before.clauses
  pub rests : after.rests ≡ before.rests

-- only a fault of the tape raises its count of faults, and a fault does
abbrev pub CountsTapeFault : {A : Type 0} → Result A TapeFault → ℕ → ℕ → Type 0
CountsTapeFault (Ok x) old new = new ≡ old
CountsTapeFault (Err fault.Fault) old new = Rose old new
CountsTapeFault (Err fault.NoMemory) old new = new ≡ old
