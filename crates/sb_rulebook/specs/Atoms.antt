-- Atoms: what the literals of a proof speak of, and when an atom is true. Atoms stand in a table and are named by
-- their number in it; an atom names only those before it.
use Rattle.std.specs.Prelude.{ℕ, ℤ, pos, ◌+ℤ◌, ◌*ℤ◌, neg_ℤ, Bool, true, false, not, ◌&&◌, ◌||◌, ◌==◌, nat_lt, int_le, if◌then◌else◌, List, [], ◌∷◌, ◌++◌, map, length, slice_get, Option, Some, None, option_map, unwrap_or}
use Rattle.std.specs.List.{list_all, list_any, flat_map, position_from}
use Rattle.std.specs.Ordering.{int_eq, is_gt}
use Rattle.std.specs.Cmp.Lexicographic.{pointwise}
use Rattle.sb_lit.specs.declared.clause.Lit.{Lit}
use Rattle.sb_word.specs.Words.{are_characters}
use Rattle.sb_lit.specs.Clauses.{is_same_literal, literal_order, are_ascending}
use Rattle.sb_lang.specs.Membership.{is_word}
use Rattle.sb_lang.specs.Regex.{Regex}
use Rattle.sb_lang.specs.Order.{regex_eq}
use Rattle.sb_lang.specs.Language.{language}
use Rattle.sb_meaning.specs.Terms.{Sort, boolean, integer, text}
use Rattle.sb_meaning.specs.Values.{Valuation, Text, Int, Truth, value_in}
use Rattle.sb_script.specs.Pieces.{Piece, constant_piece, word_piece}
use Rattle.sb_script.specs.Sums.{Variable, Summand, int_constant, length_of, serial_of, size_limit, is_within, is_same_variable}

-- an atom, over what stands for a regex in it: its number in a line of a proof, else the regex itself
pub data AtomOver (R : Type 0) : Type 0 where
  -- the Bool constant of this serial is true
  bool_atom : ℕ → AtomOver R
  -- the concatenation of the pieces is in the language of the regex
  in_atom : List Piece → R → AtomOver R
  -- the variable is at most the number
  le_atom : Variable → ℤ → AtomOver R
  -- the sum of the summands is at most the number
  sum_atom : ℤ → List Summand → AtomOver R
  -- all these literals are true
  and_atom : List Lit → AtomOver R
  -- the two literals are both true or both false
  iff_atom : Lit → Lit → AtomOver R

abbrev pub Atom : Type 0
Atom = AtomOver Regex

-- What stands in an atom.

-- the literals that it speaks of
abbrev pub literals_in : {R : Type 0} → AtomOver R → List Lit
literals_in (and_atom ls) = ls
literals_in (iff_atom l m) = l ∷ m ∷ []
literals_in _ = []

abbrev pub piece_constants : Piece → List (ℕ × Sort)
piece_constants (constant_piece serial) = (serial, text) ∷ []
piece_constants (word_piece w) = []

abbrev pub variable_constant : Variable → ℕ × Sort
variable_constant (int_constant serial) = (serial, integer)
variable_constant (length_of serial) = (serial, text)

-- the constants, each by its serial with the sort that it has
abbrev pub constants_in : {R : Type 0} → AtomOver R → List (ℕ × Sort)
constants_in (bool_atom serial) = (serial, boolean) ∷ []
constants_in (in_atom ps r) = flat_map piece_constants ps
constants_in (le_atom x k) = variable_constant x ∷ []
constants_in (sum_atom k ss) = map (λ s. variable_constant s.1) ss
constants_in _ = []

-- what stands for its regex
abbrev pub regex_in : {R : Type 0} → AtomOver R → Option R
regex_in (in_atom ps r) = Some r
regex_in _ = None

-- the constant of a concatenation that is one constant
abbrev pub constant_of : List Piece → Option ℕ
constant_of (constant_piece serial ∷ []) = Some serial
constant_of _ = None

-- the constant of a membership of it alone, and what stands for the regex
abbrev pub member_in : {R : Type 0} → AtomOver R → Option (ℕ × R)
member_in (in_atom ps r) = option_map (λ serial. (serial, r)) (constant_of ps)
member_in _ = None

-- the atom over what else stands for regexes
abbrev pub map_atom : {R S : Type 0} → (R → S) → AtomOver R → AtomOver S
map_atom f (bool_atom serial) = bool_atom serial
map_atom f (in_atom ps r) = in_atom ps (f r)
map_atom f (le_atom x k) = le_atom x k
map_atom f (sum_atom k ss) = sum_atom k ss
map_atom f (and_atom ls) = and_atom ls
map_atom f (iff_atom l m) = iff_atom l m

-- Which atoms are well formed.

-- no word is empty, and no two are adjacent
abbrev pub are_pieces : List Piece → Bool
are_pieces [] = true
are_pieces (constant_piece serial ∷ ps) = are_pieces ps
are_pieces (word_piece [] ∷ ps) = false
are_pieces (word_piece (c ∷ w) ∷ word_piece v ∷ ps) = false
are_pieces (word_piece (c ∷ w) ∷ ps) = are_characters (c ∷ w) && are_pieces ps

-- a factor is not 0, and within its limit
abbrev pub is_factor : ℤ → Bool
is_factor c = not (int_eq c (pos 0)) && is_within size_limit c

-- the serials ascend
abbrev pub are_summands : List Summand → Bool
are_summands [] = true
are_summands (s ∷ []) = is_factor s.0
are_summands (s ∷ t ∷ rest) = is_factor s.0 && (nat_lt (serial_of s.1) (serial_of t.1) && are_summands (t ∷ rest))

abbrev pub is_one : ℤ → Bool
is_one c = int_eq c (pos 1)

-- one variable is a sum only with another factor than 1 or -1; without one there is no sum
abbrev pub is_sum : List Summand → Bool
is_sum [] = false
is_sum (s ∷ []) = not (is_one s.0 || is_one (neg_ℤ s.0))
is_sum (s ∷ t ∷ rest) = true

-- one literal alone is its own conjunction
abbrev pub is_conjunction : List Lit → Bool
is_conjunction (l ∷ []) = false
is_conjunction ls = are_ascending ls

abbrev pub is_well_formed : {R : Type 0} → AtomOver R → Bool
is_well_formed (bool_atom serial) = true
is_well_formed (in_atom ps r) = are_pieces ps
is_well_formed (le_atom x k) = is_within (pos 0x100000000) k
is_well_formed (sum_atom k ss) = is_within (pos 0x80000000) k && (are_summands ss && is_sum ss)
is_well_formed (and_atom ls) = is_conjunction ls
is_well_formed (iff_atom l m) = not (is_gt (literal_order l m))

-- When two atoms are one.

abbrev pub is_same_piece : Piece → Piece → Bool
is_same_piece (constant_piece s) (constant_piece t) = s == t
is_same_piece (word_piece v) (word_piece w) = is_word v w
is_same_piece _ _ = false

abbrev pub is_same_summand : Summand → Summand → Bool
is_same_summand s t = int_eq s.0 t.0 && is_same_variable s.1 t.1

abbrev pub is_same_atom : Atom → Atom → Bool
is_same_atom (bool_atom s) (bool_atom t) = s == t
is_same_atom (in_atom ps r) (in_atom qs s) = pointwise is_same_piece ps qs && regex_eq r s
is_same_atom (le_atom x k) (le_atom y j) = is_same_variable x y && int_eq k j
is_same_atom (sum_atom k ss) (sum_atom j ts) = int_eq k j && pointwise is_same_summand ss ts
is_same_atom (and_atom ls) (and_atom ms) = pointwise is_same_literal ls ms
is_same_atom (iff_atom l m) (iff_atom k n) = is_same_literal l k && is_same_literal m n
is_same_atom _ _ = false

-- the number of an atom in a table
abbrev pub number_of : List Atom → Atom → Option ℕ
number_of atoms atom = position_from (is_same_atom atom) 0 atoms

-- When an atom is true under a valuation.

abbrev pub word_at : Valuation → ℕ → List ℕ
word_at v serial = elim (value_in v serial text) [ Text w ↦ w | Int n ↦ [] | Truth b ↦ [] ]

abbrev pub number_at : Valuation → ℕ → ℤ
number_at v serial = elim (value_in v serial integer) [ Text w ↦ pos 0 | Int n ↦ n | Truth b ↦ pos 0 ]

abbrev pub truth_at : Valuation → ℕ → Bool
truth_at v serial = elim (value_in v serial boolean) [ Text w ↦ false | Int n ↦ false | Truth b ↦ b ]

abbrev pub word_of_piece : Valuation → Piece → List ℕ
word_of_piece v (constant_piece serial) = word_at v serial
word_of_piece v (word_piece w) = w

abbrev pub value_of : Valuation → Variable → ℤ
value_of v (int_constant serial) = number_at v serial
value_of v (length_of serial) = pos (length (word_at v serial))

abbrev pub value_of_sum : Valuation → List Summand → ℤ
value_of_sum v [] = pos 0
value_of_sum v (s ∷ ss) = (s.0 *ℤ value_of v s.1) +ℤ value_of_sum v ss

-- the truth of a literal, from that of the atoms
abbrev pub literal_holds : List Bool → Lit → Bool
literal_holds truths l = let b = unwrap_or (slice_get truths l.atom) false in if l.positive then b else not b

-- the truth of an atom, from that of the atoms before it
abbrev pub atom_holds : Valuation → List Bool → Atom → Bool
atom_holds v truths (bool_atom serial) = truth_at v serial
atom_holds v truths (in_atom ps r) = language r (flat_map (word_of_piece v) ps)
atom_holds v truths (le_atom x k) = int_le (value_of v x) k
atom_holds v truths (sum_atom k ss) = int_le (value_of_sum v ss) k
atom_holds v truths (and_atom ls) = list_all (literal_holds truths) ls
atom_holds v truths (iff_atom l m) = if literal_holds truths l then literal_holds truths m
    else not (literal_holds truths m)

abbrev pub truths_from : Valuation → List Bool → List Atom → List Bool
truths_from v truths [] = truths
truths_from v truths (atom ∷ atoms) = truths_from v (truths ++ atom_holds v truths atom ∷ []) atoms

-- the truth of each atom of a table
abbrev pub truths_of : Valuation → List Atom → List Bool
truths_of v atoms = truths_from v [] atoms

-- a clause is true where one of its literals is
abbrev pub clause_holds : Valuation → List Atom → List Lit → Bool
clause_holds v atoms clause = list_any (literal_holds (truths_of v atoms)) clause
