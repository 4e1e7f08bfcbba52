-- Literals by their atoms, and clauses by the sets of their literals.
use Rattle.std.specs.Prelude.{ℕ, Bool, true, false, List, Contains}
use Rattle.sb_lit.specs.declared.clause.Lit.{Lit}

-- the literal of the atom, positive or negative
abbrev pub of_sign : Bool → ℕ → Lit
of_sign positive atom = record { atom = atom; positive = positive }

abbrev pub plus : ℕ → Lit
plus atom = of_sign true atom

abbrev pub minus : ℕ → Lit
minus atom = of_sign false atom

-- the clause has these literals and no others
pub record IsSetOf (clause ls : List Lit) : Type 0 where
  pub no_others : (l : Lit) → Contains clause l → Contains ls l
  pub has_all : (l : Lit) → Contains ls l → Contains clause l
