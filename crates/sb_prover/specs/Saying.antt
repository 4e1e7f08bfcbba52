-- Private: the lines that a verdict has, and what they prove.
use Rattle.std.specs.Prelude.{◌≡◌, ℕ, Bool, true, if◌then◌else◌, List, [], ◌∷◌, map, Option}
use Rattle.sb_meaning.specs.Terms.{Sort}
use Rattle.sb_meaning.specs.Values.{Value}
use Rattle.sb_stack.specs.Stacked.{value_at}
use Rattle.sb_script.specs.Verdicts.{Verdict}
use Rattle.sb_rulebook.specs.Brought.{newest_format}
use Rattle.sb_rulebook.specs.Lines.{Line, header_line, text_of}
use Rattle.sb_rulebook.specs.LineLaws.{bytes_of}
use Rattle.sb_rulebook.specs.Kept.{AllKept, count_again}
use Rattle.sb_rulebook.specs.Verdicts.{Question}
use Rattle.sb_rulebook.specs.Judging.{Progress}
use Rattle.sb_sound.specs.Certified.{Proves}
use Rattle.sb_proof.specs.Tapes.{with_bytes}

-- the first line, where it does not stand there
abbrev pub first_lines : Bool → List Line
first_lines begun = if begun then [] else header_line newest_format ∷ []

-- these lines are what was told since
abbrev pub Tells : List Line → Option (List ℕ) → Option (List ℕ) → Type 0
Tells ls old new = new ≡ with_bytes (bytes_of (map text_of ls)) old

-- the value of a constant, by its serial and sort
abbrev pub said_value : List (List ℕ) → List Bool → ℕ × Sort → Value
said_value words truths c = value_at words truths c.0 c.1

-- Lines were put that prove a verdict, and their reader keeps this behind them.
pub record IsSaid (q : Question) (v : Verdict) (before : Progress) (reached : AllKept) (old new : Option (List ℕ)) :
    Type 0 where
  pub lines : List ℕ
  pub after : Progress
  pub proves : Proves before after q lines v
  pub told : new ≡ with_bytes lines old
  pub begun : after.begun ≡ true
  pub kept : after.kept ≡ count_again reached
