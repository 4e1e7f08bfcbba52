-- What regexes, by their numbers, have the words of a regex together.
use Rattle.std.specs.Prelude.{◌≡◌, ℕ, Bool, List}
use Rattle.std.specs.List.{list_any}
use Rattle.sb_lang.specs.Regex.{Regex}
use Rattle.sb_lang.specs.Language.{language}
use Rattle.sb_regex.specs.Numbered.{regex_at, AllNumbers}

-- the word is in the language of some of these
abbrev pub in_some : List Regex → List ℕ → List ℕ → Bool
in_some rs ns u = list_any (λ n. language (regex_at rs n) u) ns

-- the words of the regex are those of these
pub record IsSplit (rs : List Regex) (t : ℕ) (ns : List ℕ) : Type 0 where
  pub known : AllNumbers rs ns
  pub union : (u : List ℕ) → language (regex_at rs t) u ≡ in_some rs ns u
