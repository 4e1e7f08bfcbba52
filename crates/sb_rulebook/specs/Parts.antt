-- The regex of a RegLan term, and what all of a list have.
use Rattle.std.specs.Prelude.{if◌then◌else◌, List, [], ◌∷◌, Option, Some, None, option_map}
use Rattle.sb_lang.specs.Regex.{Regex}
use Rattle.sb_lang.specs.Normal.{normal}
use Rattle.sb_meaning.specs.Terms.{Term}
use Rattle.sb_meaning.specs.Truth.{Meaning, means_reglan, meaning_of}
use Rattle.sb_script.specs.Sizes.{is_regular}

-- what all have, where each has something
abbrev pub together : {A : Type 0} → List (Option A) → Option (List A)
together [] = Some []
together (None ∷ rest) = None
together (Some one ∷ rest) = option_map (λ others. one ∷ others) (together rest)

-- the normal regex of what a term means
abbrev pub regex_meant : Meaning → Option Regex
regex_meant (means_reglan R) = Some (normal R)
regex_meant _ = None

-- A term without constants means the same under each valuation.
abbrev pub regex_of : Term → Option Regex
regex_of t = if is_regular t then regex_meant (meaning_of [] t) else None
