-- What a walk says of a language.
use Rattle.std.specs.Prelude.{◌≡◌, ◌≢◌, ℕ, ◌≤◌, ◌<◌, true, List, ◌++◌, length, All}
use Rattle.std.specs.List.{AllPairs}
use Rattle.sb_word.specs.Words.{IsWord}
use Rattle.sb_lang.specs.Regex.{Regex}
use Rattle.sb_lang.specs.Language.{language}
use Rattle.sb_lang.specs.Languages.{Language}
use Rattle.sb_lang.specs.Least.{IsShortestLeast, HasNoWord}
use Rattle.sb_regex.specs.Numbered.{regex_at}
use Rattle.sb_graph.specs.declared.members.Outcome.{Outcome}
use Rattle.sb_graph.specs.declared.members.Outcome.TheVariants.{Found, Empty, Bounded}

-- the answer is right for the language
abbrev pub IsOutcome : Language → Outcome → Type 0
IsOutcome L (Found w) = IsShortestLeast L w
IsOutcome L Empty = HasNoWord L
IsOutcome L Bounded = Unit {0}

-- the number is of a regex whose words stand in the language behind some word
pub record IsState (rs : List Regex) (L : Language) (n : ℕ) : Type 0 where
  pub known : n < length rs
  pub word : List ℕ
  pub characters : IsWord word
  pub rests : (u : List ℕ) → language (regex_at rs n) u ≡ true → L (word ++ u) ≡ true

-- there are as many states as the bound, each once
pub record AreMany (rs : List Regex) (L : Language) (bound : ℕ) : Type 0 where
  pub states : List ℕ
  pub many : bound ≤ length states
  pub once : AllPairs (λ m n. m ≢ n) states
  pub each : All (IsState rs L) states

-- a walk that is ended by the bound has met so many states
abbrev pub MeetsBound : List Regex → Language → ℕ → Outcome → Type 0
MeetsBound rs L bound (Found w) = Unit {0}
MeetsBound rs L bound Empty = Unit {0}
MeetsBound rs L bound Bounded = AreMany rs L bound
