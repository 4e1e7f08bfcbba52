-- Private: how terms are kept and told apart.
use Rattle.std.specs.Prelude.{◌≡◌, ℕ, Bool, List, map, length, slice_get, Some}
use Rattle.sb_meaning.specs.Terms.{Term}
use Rattle.sb_term.specs.declared.term.Term as code
use Rattle.sb_term.specs.Numbered.{Names, AreDistinct}
use Rattle.sb_term.specs.Parameters.{has_parameters}
use Rattle.sb_term.specs.Nodes.{node_term, ArgumentsBelow, IsWritten}

-- the terms, each once
pub record IsTable (ts : List Term) (ds : List code.Term) : Type 0 where
  pub nodes : (i : ℕ) (d : code.Term) → slice_get ds i ≡ Some d → Names ts i (node_term ts d)
  pub arguments : (i : ℕ) (d : code.Term) → slice_get ds i ≡ Some d → ArgumentsBelow i d
  pub written : (i : ℕ) (d : code.Term) → slice_get ds i ≡ Some d → IsWritten d
  pub long : length ts ≡ length ds
  pub distinct : AreDistinct ts

-- in which of the terms a parameter stands
abbrev pub AreMarked : List Term → List Bool → Type 0
AreMarked ts marks = marks ≡ map has_parameters ts
