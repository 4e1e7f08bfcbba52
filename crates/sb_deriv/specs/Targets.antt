-- The targets of an interval map, with classes of characters.
use Rattle.std.specs.Prelude.{◌≡◌, ◌≢◌, ℕ, ◌<◌, true, ◌==◌, List, map, All, Contains}
use Rattle.std.specs.List.{AllPairs}
use Rattle.sb_class.specs.Ranges.{Range, in_ranges, IsLeast}
use Rattle.sb_word.specs.Words.{is_character}
use Rattle.sb_deriv.specs.Pieces.{value_at}

-- a class of characters by its ranges, and the number of the regex to which they lead
abbrev pub ClassTarget : Type 0
ClassTarget = List Range × ℕ

-- the targets of the map, each once, with the characters that lead there, in the order of the least of those
pub record AreTargets (pieces : List (ℕ × ℕ)) (targets : List ClassTarget) : Type 0 where
  pub once : AllPairs (λ t u. t.1 ≢ u.1) targets
  pub classes : All (λ t. (c : ℕ) → is_character c ≡ true → in_ranges t.0 c ≡ (value_at pieces c == t.1)) targets
  pub all : (c : ℕ) → is_character c ≡ true → Contains (map (λ t. t.1) targets) (value_at pieces c)
  pub not_empty : All (λ t. (m : ℕ) × IsLeast t.0 m) targets
  pub ordered : AllPairs (λ t u. (m n : ℕ) → IsLeast t.0 m → IsLeast u.0 n → m < n) targets
