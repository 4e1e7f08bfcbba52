-- The rule of the lines that define an atom.
use Rattle.std.specs.Prelude.{ℕ, Bool, true, false, nat_lt, if◌then◌else◌, List, [], ◌∷◌, ◌++◌, length, slice_get, Option, Some, None, option_map, Result, Ok, Err}
use Rattle.std.specs.List.{list_all, list_any}
use Rattle.sb_lit.specs.declared.clause.Lit.{Lit}
use Rattle.sb_lang.specs.Regex.{Regex}
use Rattle.sb_meaning.specs.Terms.{Sort, boolean, integer, text}
use Rattle.sb_meaning.specs.Sorts.{is_same_sort}
use Rattle.sb_rulebook.specs.Refusals.{Refusal, unknown_id, repeated, not_normal}
use Rattle.sb_rulebook.specs.Atoms.{Atom, AtomOver, bool_atom, in_atom, le_atom, sum_atom, and_atom, iff_atom, is_well_formed, is_same_atom}
use Rattle.sb_rulebook.specs.Kept.{AllKept, Asked}
use Rattle.sb_script.specs.Pieces.{Piece, constant_piece, word_piece}
use Rattle.sb_script.specs.Sums.{Variable, int_constant, length_of}

-- the literal's atom is in a table
abbrev pub is_known : List Atom → Lit → Bool
is_known atoms l = nat_lt l.atom (length atoms)

abbrev pub are_known : List Atom → List Lit → Bool
are_known atoms ls = list_all (is_known atoms) ls

-- the constant is declared, and of the sort
abbrev pub is_declared : List Sort → Sort → ℕ → Bool
is_declared sorts sort serial = elim (slice_get sorts serial) [ None ↦ false | Some other ↦ is_same_sort sort other ]

abbrev pub is_declared_piece : List Sort → Piece → Bool
is_declared_piece sorts (constant_piece serial) = is_declared sorts text serial
is_declared_piece sorts (word_piece w) = true

abbrev pub is_declared_variable : List Sort → Variable → Bool
is_declared_variable sorts (int_constant serial) = is_declared sorts integer serial
is_declared_variable sorts (length_of serial) = is_declared sorts text serial

-- the constants and the atoms that the atom names are there
abbrev pub has_its_parts : List Sort → List Atom → AtomOver ℕ → Bool
has_its_parts sorts atoms (bool_atom serial) = is_declared sorts boolean serial
has_its_parts sorts atoms (in_atom ps r) = list_all (is_declared_piece sorts) ps
has_its_parts sorts atoms (le_atom x k) = is_declared_variable sorts x
has_its_parts sorts atoms (sum_atom k ss) = list_all (λ s. is_declared_variable sorts s.1) ss
has_its_parts sorts atoms (and_atom ls) = are_known atoms ls
has_its_parts sorts atoms (iff_atom l m) = are_known atoms (l ∷ m ∷ [])

-- the atom with the regex itself; none where its number is not defined
abbrev pub with_regex : List Regex → AtomOver ℕ → Option Atom
with_regex known (bool_atom serial) = Some (bool_atom serial)
with_regex known (in_atom ps r) = option_map (in_atom ps) (slice_get known r)
with_regex known (le_atom x k) = Some (le_atom x k)
with_regex known (sum_atom k ss) = Some (sum_atom k ss)
with_regex known (and_atom ls) = Some (and_atom ls)
with_regex known (iff_atom l m) = Some (iff_atom l m)

-- An atom is defined once, and only a well-formed one.
abbrev pub defined : AllKept → Atom → Result AllKept Refusal
defined kept atom =
    if list_any (is_same_atom atom) kept.atoms then Err repeated
    else if is_well_formed atom then Ok (record kept { atoms = kept.atoms ++ atom ∷ [] })
    else Err not_normal

abbrev pub follows_atom : Asked → AllKept → AtomOver ℕ → Result AllKept Refusal
follows_atom asked kept line = elim (with_regex kept.regexes line) [
  | None ↦ Err unknown_id
  | Some atom ↦ if has_its_parts asked.sorts kept.atoms line then defined kept atom else Err unknown_id
]
