-- Private: how the atoms are gathered.
use Rattle.std.specs.Prelude.{◌≡◌, ℕ, Bool, true, List, ◌++◌}
use Rattle.sb_solve.specs.Words.{AtomOver, list_all}
use Rattle.sb_solve.specs.Wanted.{parts_at, are_closed}

-- what holds of the old numbers, and of the parts of each atom of which it holds, holds of the new ones
abbrev pub Follow : List (AtomOver ℕ) → List ℕ → List ℕ → Type 0
Follow atoms old new = (test : ℕ → Bool) → list_all test old ≡ true
    → ((i : ℕ) → test i ≡ true → list_all test (parts_at atoms i) ≡ true) → list_all test new ≡ true

-- The old numbers stay in front, and behind them stand parts, until there are no more.
pub record Closes (atoms : List (AtomOver ℕ)) (old new : List ℕ) : Type 0 where
  pub more : List ℕ
  pub is : new ≡ old ++ more
  pub closed : are_closed atoms new ≡ true
  pub follow : Follow atoms old new
