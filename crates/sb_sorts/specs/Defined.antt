-- What a scope keeps of a definition.
use Rattle.std.specs.Prelude.{ℕ, List}
use Rattle.sb_term.specs.declared.sort.Sort.{Sort}

-- the sorts of parameters, and the number of the body's term
pub record Defined : Type 0 where
  pub sorts : List Sort
  pub body : ℕ
