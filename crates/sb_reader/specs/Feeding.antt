-- What a feed keeps, and what its answers say of it.
use Rattle.std.specs.Prelude.{◌≡◌, ℕ, ◌≤◌, ◌⊎◌, Bool, true, false, not, List, ◌∷◌, ◌++◌, length}
use Rattle.sb_reader.specs.declared.feed.Ending.TheVariants.{Clean, Unfinished}
use Rattle.sb_reader.specs.declared.feed.Ending.{Ending}
use Rattle.sb_reader.specs.declared.feed.Next.{Next}
use Rattle.sb_reader.specs.declared.feed.Next.TheVariants as next
use Rattle.sb_reader.specs.Tokens.{all_pass, is_line_end, is_gap, is_open_gap}
use Rattle.sb_reader.specs.Forms.{form_of}
use Rattle.sb_reader.specs.Entries.{Entry, Command, Refused, SpellsEntry, HoldsNoEntry}

-- The bytes that were pushed and are not answered yet, and whether no more come.
abbrev pub Unanswered : Type 0
Unanswered = List ℕ × Bool

-- the bytes of an entry are taken, and it is the answer
abbrev pub Takes : Entry → Unanswered → Unanswered → Type 0
Takes entry old new = (front : List ℕ) × (old.0 ≡ front ++ new.0) × (new.1 ≡ old.1)
    × SpellsEntry old.1 entry front new.0

-- A comment comes first, and kept is without part of what it holds.
pub record CutsComment (whole kept : List ℕ) : Type 0 where
  pub inside : List ℕ
  pub rest : List ℕ
  pub whole_is : whole ≡ 59 ∷ (inside ++ rest)
  pub kept_is : kept ≡ 59 ∷ rest
  pub no_line_end : all_pass (λ b. not (is_line_end b)) inside ≡ true

-- The bytes that are left shorten to those that are kept, which lack white space and whole comments in front, and where
-- a comment comes first then, maybe part of what it holds.
pub record ShortensTo (left kept : List ℕ) : Type 0 where
  pub gap : List ℕ
  pub whole : List ℕ
  pub is_gap : is_gap gap ≡ true
  pub split : left ≡ gap ++ whole
  pub cut : (whole ≡ kept) ⊎ CutsComment whole kept

-- No entry is whole. White space and comments in front may be taken, so that they don't pile up: where there is nothing
-- else, at most the semicolon of a comment is kept.
pub record Waits (old new : Unanswered) : Type 0 where
  pub shorter : ShortensTo old.0 new.0
  pub short : is_open_gap old.0 ≡ true → length new.0 ≤ 1
  pub more_may_come : old.1 ≡ false
  pub still : new.1 ≡ false
  pub no_entry : HoldsNoEntry false new.0

-- The input has ended, outside a form or within one. Nothing changes from then on.
abbrev pub Ends : Ending → Unanswered → Unanswered → Type 0
Ends Clean old new = (old.1 ≡ true) × (new ≡ old) × (is_open_gap old.0 ≡ true)
Ends Unfinished old new = (old.1 ≡ true) × (new ≡ old) × (is_open_gap old.0 ≡ false) × HoldsNoEntry true old.0

-- what an answer says of the bytes
abbrev pub IsNext : Next → Unanswered → Unanswered → Type 0
IsNext (next.Command sexpr) old new = Takes (Command (form_of sexpr)) old new
IsNext (next.Refused refusal) old new = Takes (Refused refusal) old new
IsNext next.NotYet old new = Waits old new
IsNext (next.Ended ending) old new = Ends ending old new
