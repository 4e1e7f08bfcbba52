-- Private: the parts of an intersection that are divided, and those that are left whole.
use Rattle.std.specs.Prelude.{◌≡◌, ℕ, Bool, ◌&&◌, List}
use Rattle.std.specs.List.{list_all}
use Rattle.sb_lang.specs.Regex.{Regex}
use Rattle.sb_lang.specs.Language.{language}
use Rattle.sb_regex.specs.Numbered.{regex_at, AllNumbers}

-- the word is in the language of each of these
abbrev pub in_each : List Regex → List ℕ → List ℕ → Bool
in_each rs ns u = list_all (λ n. language (regex_at rs n) u) ns

-- the words of the regex are those that all of these have
pub record IsChoice (rs : List Regex) (t : ℕ) (whole divided : List ℕ) : Type 0 where
  pub whole_known : AllNumbers rs whole
  pub divided_known : AllNumbers rs divided
  pub each : (u : List ℕ) → language (regex_at rs t) u ≡ (in_each rs whole u && in_each rs divided u)
