-- Tables of atoms: each atom names only those before it.
use Rattle.std.specs.Prelude.{ℕ, suc, Bool, true, ◌&&◌, nat_lt, List, [], ◌∷◌}
use Rattle.std.specs.List.{list_all}
use Rattle.sb_rulebook.specs.Atoms.{Atom, bool_atom, in_atom, le_atom, sum_atom, and_atom, iff_atom}

-- the atom names only atoms below the number
abbrev pub names_below : ℕ → Atom → Bool
names_below n (bool_atom serial) = true
names_below n (in_atom ps r) = true
names_below n (le_atom x k) = true
names_below n (sum_atom k ss) = true
names_below n (and_atom ls) = list_all (λ l. nat_lt l.atom n) ls
names_below n (iff_atom l m) = nat_lt l.atom n && nat_lt m.atom n

abbrev pub is_table_from : ℕ → List Atom → Bool
is_table_from n [] = true
is_table_from n (atom ∷ atoms) = names_below n atom && is_table_from (suc n) atoms

abbrev pub is_table : List Atom → Bool
is_table atoms = is_table_from 0 atoms
