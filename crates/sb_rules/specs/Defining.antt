-- Private: the line of an atom.
use Rattle.std.specs.Prelude.{◌≡◌, ℕ, Bool, true, false, ◌&&◌, nat_lt, is_some, List, slice_get, Option, Some, None, option_map}
use Rattle.std.specs.List.{list_all}
use Rattle.sb_meaning.specs.Terms.{Sort, boolean}
use Rattle.sb_rulebook.specs.Atoms.{AtomOver, bool_atom, in_atom, le_atom, sum_atom, and_atom, iff_atom, map_atom, regex_in}
use Rattle.sb_rulebook.specs.AtomRules.{is_declared, is_declared_piece, is_declared_variable}
use Rattle.sb_rulebook.specs.Brought.{is_brought_atom}
use Rattle.sb_proof.specs.declared.atom.Atom as code
use Rattle.sb_proof.specs.Lines.{atom_in}

-- the atom by the number of its regex in the arena; none where that is not defined
abbrev pub numbered : List ℕ → AtomOver ℕ → Option (AtomOver ℕ)
numbered order a = elim (regex_in a) as (λ _. Option (AtomOver ℕ)) [
  | None ↦ Some a
  | Some r ↦ option_map (λ n. map_atom (λ _. n) a) (slice_get order r)
]

-- the atom is the one that was found; where none was, it is not brought, or its regex is not defined
abbrev pub IsBroughtAs : List ℕ → AtomOver ℕ → Option (code.Atom ℕ) → Type 0
IsBroughtAs order atom None = is_some (numbered order atom) ≡ true → is_brought_atom atom ≡ false
IsBroughtAs order atom (Some found) = (is_brought_atom atom ≡ true) × (numbered order atom ≡ Some (atom_in found))

-- The constants, the regex and the atoms are there that an atom names, where constants of these sorts are declared.
abbrev pub have_parts : List Sort → List ℕ → ℕ → AtomOver ℕ → Bool
have_parts sorts order count (bool_atom serial) = is_declared sorts boolean serial
have_parts sorts order count (in_atom ps r) = is_some (slice_get order r) && list_all (is_declared_piece sorts) ps
have_parts sorts order count (le_atom x k) = is_declared_variable sorts x
have_parts sorts order count (sum_atom k ss) = list_all (λ s. is_declared_variable sorts s.1) ss
have_parts sorts order count (and_atom ls) = list_all (λ l. nat_lt l.atom count) ls
have_parts sorts order count (iff_atom l m) = nat_lt l.atom count && nat_lt m.atom count
