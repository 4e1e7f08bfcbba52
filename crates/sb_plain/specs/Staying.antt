-- Private: how the stays of walks go on, and what is left of them along fewer characters.
use Rattle.std.specs.Prelude.{◌≡◌, ℕ, ◌<◌, ◌≤◌, min, List, length, get_or, take}
use Rattle.sb_lang.specs.Regex.{Regex}
use Rattle.sb_lang.specs.Derivative.{nd}
use Rattle.sb_regex.specs.Numbered.{regex_at, Extends, Names}
use Rattle.sb_plain.specs.declared.walked.Stay.{Stay}

-- along so many first characters at most
abbrev pub cut_to : ℕ → Stay → Stay
cut_to count s = record { from = s.from; to = min s.to count; rest = s.rest }

-- both have so many first characters, and these are the same
pub record AreAlike (count : ℕ) (left right : List ℕ) : Type 0 where
  pub within_left : count ≤ length left
  pub within_right : count ≤ length right
  pub same : take count left ≡ take count right

-- the character behind a stay that has not ended leads to the regex of the number
pub record IsStep (old new : List Regex) (codes : List ℕ) (s : Stay) (rest : ℕ) : Type 0 where
  pub begins : s.from ≤ s.to
  pub within : s.to < length codes
  pub extends : Extends old new
  pub target : Names new rest (nd (regex_at old s.rest) (get_or codes s.to 0))
