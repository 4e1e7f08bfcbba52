-- The order of bounds is true, and which clauses are of it.
use Rattle.std.specs.Prelude.{◌≡◌, ◌↔◌, ℕ, ℤ, pos, true, List, [], ◌∷◌, slice_get, Some}
use Rattle.std.specs.Int.Signed.{◌<ℤ◌}
use Rattle.sb_lit.specs.declared.clause.Lit.{Lit}
use Rattle.sb_meaning.specs.Values.{Valuation}
use Rattle.sb_script.specs.Sums.{Variable, length_of}
use Rattle.sb_rulebook.specs.Atoms.{Atom, le_atom, clause_holds}
use Rattle.sb_rulebook.specs.BoundClauses.{is_order}
use Rattle.sb_sound.specs.ClauseForms.{plus, minus, IsSetOf}

abbrev pub OrdersHold : Type 0
OrdersHold = (v : Valuation) (atoms : List Atom) (clause : List Lit) → is_order atoms clause ≡ true
    → clause_holds v atoms clause ≡ true

-- The forms of clauses of the order.
pub data IsOrder (atoms : List Atom) (clause : List Lit) : Type 0 where
  -- (-a b), for a = the variable is at most j, and b = it is at most k, with j below k
  of_greater : (a b : ℕ) (x : Variable) (j k : ℤ) → slice_get atoms a ≡ Some (le_atom x j)
      → slice_get atoms b ≡ Some (le_atom x k) → j <ℤ k → IsSetOf clause (minus a ∷ plus b ∷ []) → IsOrder atoms clause
  -- (-a), for a = the length is at most k, with k below 0
  of_no_length : (a serial : ℕ) (k : ℤ) → slice_get atoms a ≡ Some (le_atom (length_of serial) k) → k <ℤ pos 0
      → IsSetOf clause (minus a ∷ []) → IsOrder atoms clause

-- the rule accepts these and no others
abbrev pub OrdersAreExact : Type 0
OrdersAreExact = (atoms : List Atom) (clause : List Lit) → (is_order atoms clause ≡ true) ↔ IsOrder atoms clause
