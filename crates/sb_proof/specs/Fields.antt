-- Private: fields of a line, each with a space in front.
use Rattle.std.specs.Prelude.{ℕ, List, ◌∷◌}
use Rattle.std.specs.List.{flat_map}
use Rattle.sb_rulebook.specs.Lines.{Field}

abbrev pub behind : ℕ → List Field → List ℕ
behind separator fs = flat_map (λ f. separator ∷ f) fs

abbrev pub spaced : List Field → List ℕ
spaced = behind 32
