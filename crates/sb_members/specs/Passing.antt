-- Private: how a list of starts goes on.
use Rattle.std.specs.Prelude.{◌≡◌, ℕ, ◌<◌, true, List, ◌++◌, length, All}
use Rattle.sb_lang.specs.Regex.{Regex}
use Rattle.sb_lang.specs.Language.{language}
use Rattle.sb_regex.specs.Numbered.{regex_at}
use Rattle.sb_members.specs.Starts.{IsPassed}

-- the list goes on with such numbers
pub record GoesOn (P : ℕ → Type 0) (old new : List ℕ) : Type 0 where
  pub more : List ℕ
  pub is : new ≡ old ++ more
  pub each : All P more

-- with what is to be there once the words of a start are looked at
pub record IsWith (rs : List Regex) (n : ℕ) (old new : List ℕ) : Type 0 where
  pub goes_on : GoesOn (λ m. (m < length rs) × ((u : List ℕ) → language (regex_at rs m) u ≡ true
      → language (regex_at rs n) u ≡ true)) old new
  pub passed : IsPassed rs new (regex_at rs n)
