-- Computed examples of atoms that are wanted, of memberships without constants, of values, and of assumptions.
use Rattle.std.specs.Prelude.{◌≡◌, ℕ, pos, true, false, List, [], ◌∷◌, Option, Some, None, refl}
use Rattle.sb_lit.specs.declared.clause.Lit.{Lit}
use Rattle.sb_trail.specs.declared.assigned.Assigned.{Assigned}
use Rattle.sb_script.specs.Pieces.{constant_piece, word_piece}
use Rattle.sb_script.specs.Sums.{length_of}
use Rattle.sb_rulebook.specs.Atoms.{Atom, AtomOver, bool_atom, in_atom, le_atom, and_atom, iff_atom}
use Rattle.sb_refute.specs.Settling.{are_letters, letters_of, pieces_of_word}
use Rattle.sb_solve.specs.Assumed.{denied_in, make_true, refutes_in}
use Rattle.sb_solve.specs.Wanted.{atoms_of, parts_at, is_simple_at, are_closed}
use Rattle.sb_solve.specs.Values.{is_true, truth_by, truth_in, word_in, word_there, are_words_there}

abbrev plus : ℕ → Lit
plus atom = record { atom = atom; positive = true }

abbrev minus : ℕ → Lit
minus atom = record { atom = atom; positive = false }

-- 0: the Bool constant 5. 1: the constant 3 is in a language. 2: 0 is true and 1 is not. 3: the Bool constant 7. 4: 2
-- is true exactly where 3 is
abbrev five : List (AtomOver ℕ)
five = bool_atom 5 ∷ in_atom (constant_piece 3 ∷ []) 1 ∷ and_atom (plus 0 ∷ minus 1 ∷ []) ∷ bool_atom 7
    ∷ iff_atom (plus 2) (plus 3) ∷ []

of_a_conjunction : parts_at five 2 ≡ 0 ∷ 1 ∷ []
of_a_conjunction = refl

of_an_equivalence : parts_at five 4 ≡ 2 ∷ 3 ∷ []
of_an_equivalence = refl

of_a_constant : parts_at five 0 ≡ []
of_a_constant = refl

past_the_table : parts_at five 5 ≡ []
past_the_table = refl

simple : is_simple_at five 1 ≡ true
simple = refl

of_two_constants : is_simple_at (in_atom (constant_piece 3 ∷ constant_piece 4 ∷ []) 1 ∷ []) 0 ≡ true
of_two_constants = refl

of_a_bound : is_simple_at (le_atom (length_of 3) (pos 1) ∷ []) 0 ≡ false
of_a_bound = refl

-- a word alone, which may be empty
of_a_word : pieces_of_word (97 ∷ []) ≡ word_piece (97 ∷ []) ∷ []
of_a_word = refl

of_the_empty_word : pieces_of_word [] ≡ []
of_the_empty_word = refl

without_constants : are_letters (word_piece (97 ∷ []) ∷ []) ≡ true
without_constants = refl

with_a_constant : are_letters (word_piece (97 ∷ []) ∷ constant_piece 3 ∷ []) ≡ false
with_a_constant = refl

their_letters : letters_of (word_piece (97 ∷ []) ∷ word_piece (98 ∷ []) ∷ []) ≡ 97 ∷ 98 ∷ []
their_letters = refl

their_atoms : atoms_of (minus 2 ∷ plus 3 ∷ []) ≡ 2 ∷ 3 ∷ []
their_atoms = refl

with_all_parts : are_closed five (2 ∷ 0 ∷ 1 ∷ []) ≡ true
with_all_parts = refl

without_a_part : are_closed five (2 ∷ 0 ∷ []) ≡ false
without_a_part = refl

part_of_a_part : are_closed five (4 ∷ 2 ∷ 3 ∷ []) ≡ false
part_of_a_part = refl

-- 0 and 3 have values
abbrev entries : List Assigned
entries = record { literal = plus 0; level = 1; reason = None } ∷ record { literal = minus 3; level = 2; reason = None }
    ∷ []

true_on_the_trail : is_true entries 0 ≡ true
true_on_the_trail = refl

false_on_the_trail : is_true entries 3 ≡ false
false_on_the_trail = refl

not_on_the_trail : is_true entries 1 ≡ false
not_on_the_trail = refl

made_true : truth_by five entries (0 ∷ 3 ∷ []) 5 ≡ true
made_true = refl

made_false : truth_by five entries (0 ∷ 3 ∷ []) 7 ≡ false
made_false = refl

-- of an atom that is not wanted nothing is taken
not_wanted : truth_by five entries (3 ∷ []) 5 ≡ false
not_wanted = refl

of_no_atom : truth_by five entries (0 ∷ 3 ∷ []) 0 ≡ false
of_no_atom = refl

past_the_last : truth_in (true ∷ []) 1 ≡ false
past_the_last = refl

past_the_last_word : word_in ((97 ∷ []) ∷ []) 1 ≡ []
past_the_last_word = refl

-- the word of the constant 1 alone
abbrev alone : List (Option (List ℕ))
alone = None ∷ Some (97 ∷ []) ∷ []

its_word : word_there alone 1 ≡ Some (97 ∷ [])
its_word = refl

of_another : word_there alone 0 ≡ None
of_another = refl

none_past_the_last : word_there alone 2 ≡ None
none_past_the_last = refl

of_characters : are_words_there alone ≡ true
of_characters = refl

-- 0: the Bool constant 5. 1: the Bool constant 7
abbrev two : List Atom
two = bool_atom 5 ∷ bool_atom 7 ∷ []

each_in_the_order_given : denied_in two (minus 0 ∷ plus 1 ∷ []) ((7, false) ∷ (5, true) ∷ (7, false) ∷ [])
    ≡ (7, false) ∷ (5, true) ∷ []
each_in_the_order_given = refl

no_other_one : denied_in two (minus 0 ∷ []) ((5, false) ∷ (7, true) ∷ (5, true) ∷ []) ≡ (5, true) ∷ []
no_other_one = refl

by_no_literals : denied_in two [] ((5, true) ∷ []) ≡ []
by_no_literals = refl

of_denied_ones : refutes_in two (minus 0 ∷ plus 1 ∷ []) ((7, false) ∷ (5, true) ∷ []) ≡ true
of_denied_ones = refl

of_one_that_is_not : refutes_in two (minus 0 ∷ minus 1 ∷ []) ((7, false) ∷ (5, true) ∷ []) ≡ false
of_one_that_is_not = refl

as_assumed : make_true (true ∷ []) ((0, true) ∷ (3, false) ∷ []) ≡ true
as_assumed = refl

not_as_assumed : make_true [] ((0, true) ∷ []) ≡ false
not_as_assumed = refl
