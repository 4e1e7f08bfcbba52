-- What is kept of regexes, by numbers in an arena.
use Rattle.std.specs.Prelude.{ℕ, Bool, List, Option}
use Rattle.sb_lang.specs.Regex.{Regex}
use Rattle.sb_regex.specs.Numbered.{regexes_at}
use Rattle.sb_rulebook.specs.Kept.{AllKept}

-- what is kept of regexes, by the numbers of the proof
pub record Known : Type 0 where
  -- the numbers in the arena
  pub order : List ℕ
  -- the targets of each expansion, by the numbers of the proof
  pub expansions : List (Option (List ℕ))
  pub dead : List Bool

-- all that is kept, where this is kept of the regexes of an arena
abbrev pub with_known : List Regex → Known → AllKept → AllKept
with_known rs known kept =
    record kept { regexes = regexes_at rs known.order; expansions = known.expansions; dead = known.dead }
