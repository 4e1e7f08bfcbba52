-- The clauses of bounds, by rules order and linear, which are true under every valuation.
use Rattle.std.specs.Prelude.{ℤ, pos, ◌+ℤ◌, int_lt, int_le, Bool, true, false, not, ◌&&◌, ◌||◌, List, [], ◌∷◌, filter, Option, Some, None}
use Rattle.std.specs.List.{list_all, list_any, flat_map}
use Rattle.sb_lit.specs.declared.clause.Lit.{Lit}
use Rattle.sb_rulebook.specs.Atoms.{Atom, le_atom, sum_atom}
use Rattle.sb_rulebook.specs.Gates.{is_set_of, atom_of}
use Rattle.sb_script.specs.Sums.{length_of, is_same_variable}
use Rattle.sb_script.specs.Bounds.{Bound, at_least, at_most, least_sum, greatest_sum}

-- Order: a lesser bound gives a greater one of the same variable; no length is below 0.

abbrev pub is_lesser_bound : Option Atom → Option Atom → Bool
is_lesser_bound (Some (le_atom x j)) (Some (le_atom y k)) = is_same_variable x y && int_lt j k
is_lesser_bound _ _ = false

abbrev pub is_no_length : Option Atom → Bool
is_no_length (Some (le_atom (length_of serial) k)) = int_lt k (pos 0)
is_no_length _ = false

abbrev pub is_order_at : List Atom → List Lit → Lit → Bool
is_order_at atoms clause a =
    (is_set_of clause (a ∷ []) && is_no_length (atom_of atoms a))
    || list_any (λ b. b.positive
    && (is_set_of clause (a ∷ b ∷ []) && is_lesser_bound (atom_of atoms a) (atom_of atoms b))) clause

abbrev pub is_order : List Atom → List Lit → Bool
is_order atoms clause = list_any (λ a. not a.positive && is_order_at atoms clause a) clause

-- Linear: where all literals are false, the bounds that this gives the variables contradict that of the sum.

abbrev pub is_sum_bound : Option Atom → Bool
is_sum_bound (Some (sum_atom k ss)) = true
is_sum_bound _ = false

abbrev pub is_bound : Option Atom → Bool
is_bound (Some (le_atom x k)) = true
is_bound _ = false

-- the bound that a literal of this sign gives where it is false
abbrev pub bound_denied : Bool → Option Atom → List Bound
bound_denied true (Some (le_atom x k)) = at_least x (k +ℤ pos 1) ∷ []
bound_denied false (Some (le_atom x k)) = at_most x k ∷ []
bound_denied _ _ = []

abbrev pub bounds_denied : List Atom → List Lit → List Bound
bounds_denied atoms clause = flat_map (λ l. bound_denied l.positive (atom_of atoms l)) clause

abbrev pub passes : (ℤ → Bool) → Option ℤ → Bool
passes test None = false
passes test (Some n) = test n

-- a literal of a sum is true by the bounds: the greatest value is at most its bound, or the least value above it
abbrev pub is_forced : List Bound → Bool → Option Atom → Bool
is_forced bounds true (Some (sum_atom k ss)) = passes (λ n. int_le n k) (greatest_sum bounds ss)
is_forced bounds false (Some (sum_atom k ss)) = passes (λ n. int_lt k n) (least_sum bounds ss)
is_forced bounds _ _ = false

abbrev pub is_forced_sum : List Atom → List Lit → List Lit → Bool
is_forced_sum atoms clause (l ∷ []) = is_forced (bounds_denied atoms clause) l.positive (atom_of atoms l)
is_forced_sum atoms clause _ = false

abbrev pub is_linear : List Atom → List Lit → Bool
is_linear atoms clause =
    list_all (λ l. is_sum_bound (atom_of atoms l) || is_bound (atom_of atoms l)) clause
    && is_forced_sum atoms clause (filter (λ l. is_sum_bound (atom_of atoms l)) clause)
