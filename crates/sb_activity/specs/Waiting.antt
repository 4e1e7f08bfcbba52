-- Which atoms wait.
use Rattle.std.specs.Prelude.{ℕ, Bool, nat_lt, List, map}

-- by atom, whose places these are, whether it is among the first, so many
abbrev pub are_first : ℕ → List ℕ → List Bool
are_first count places = map (λ place. nat_lt place count) places
