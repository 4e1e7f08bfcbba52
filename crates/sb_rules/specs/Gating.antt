-- Private: the clauses of gates.
use Rattle.std.specs.Prelude.{◌≡◌, Bool, List}
use Rattle.sb_lit.specs.declared.clause.Lit.{Lit}
use Rattle.sb_lit.specs.Clauses.{is_among}

-- the test says which literals are in the clause
abbrev pub HasLiterals : List Lit → (Lit → Bool) → Type 0
HasLiterals clause has = (l : Lit) → has l ≡ is_among clause l
