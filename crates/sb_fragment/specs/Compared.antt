-- What is compared two by two.
use Rattle.std.specs.Prelude.{Bool, true, false, if◌then◌else◌, List, [], ◌∷◌, ◌++◌, map}
use Rattle.sb_meaning.specs.Truth.{is_chain, are_pairs}
pub use Rattle.sb_meaning.specs.Truth.{neighbours}

-- each two
abbrev pub pairs : {A : Type 0} → List A → List (A × A)
pairs [] = []
pairs (a ∷ rest) = map (λ b. (a, b)) rest ++ pairs rest

-- those that are compared: each two, or each two neighbours
abbrev pub compared : {A : Type 0} → Bool → List A → List (A × A)
compared distinct xs = if distinct then pairs xs else neighbours xs

-- the relation holds between all that are compared
abbrev pub each_two : {A : Type 0} → Bool → (A → A → Bool) → List A → Bool
each_two distinct relation xs = if distinct then are_pairs relation xs else is_chain relation xs

-- those with which one in front of them is compared: all of them, or the first one
abbrev pub facing : {A : Type 0} → Bool → List A → List A
facing true xs = xs
facing false [] = []
facing false (x ∷ xs) = x ∷ []
