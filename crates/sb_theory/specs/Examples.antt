-- Computed examples of literals that are true of words.
use Rattle.std.specs.Prelude.{◌≡◌, ℕ, true, false, List, [], ◌∷◌, Some, None, refl}
use Rattle.sb_theory.specs.Words.{AtomOver, Lit, Regex, bool_atom, constant_piece, eps, in_atom, none}
use Rattle.sb_lang.specs.Language.{language}
use Rattle.sb_theory.specs.Memberships.{subject_of, literals_about, word_at, is_true_by, is_atom}
use Rattle.sb_theory.specs.Wanted.{is_wanted, wanted_of}

abbrev plus : ℕ → Lit
plus atom = record { atom = atom; positive = true }

abbrev minus : ℕ → Lit
minus atom = record { atom = atom; positive = false }

-- 0: the constant 3 is empty. 1: a Bool constant. 2: the constant 4 is in no language
abbrev three : List (AtomOver ℕ)
three = in_atom (constant_piece 3 ∷ []) 1 ∷ bool_atom 5 ∷ in_atom (constant_piece 4 ∷ []) 0 ∷ []

abbrev regexes : List Regex
regexes = none ∷ eps ∷ []

the_constant : subject_of three (minus 2) ≡ Some 4
the_constant = refl

of_another_atom : subject_of three (plus 1) ≡ None
of_another_atom = refl

of_no_atom : subject_of three (plus 7) ≡ None
of_no_atom = refl

of_one_constant : literals_about three 3 (plus 0 ∷ plus 1 ∷ minus 2 ∷ minus 0 ∷ []) ≡ plus 0 ∷ minus 0 ∷ []
of_one_constant = refl

-- of a literal whose atom is not wanted nothing is asked
of_wanted_atoms : wanted_of (2 ∷ 0 ∷ []) (plus 0 ∷ minus 1 ∷ minus 2 ∷ minus 0 ∷ []) ≡ plus 0 ∷ minus 2 ∷ minus 0 ∷ []
of_wanted_atoms = refl

not_wanted : is_wanted (2 ∷ 0 ∷ []) 1 ≡ false
not_wanted = refl

a_word : word_at (None ∷ Some (97 ∷ []) ∷ []) 1 ≡ 97 ∷ []
a_word = refl

without_a_word : word_at (None ∷ Some (97 ∷ []) ∷ []) 0 ≡ []
without_a_word = refl

past_the_last : word_at (None ∷ Some (97 ∷ []) ∷ []) 9 ≡ []
past_the_last = refl

-- where no constant has a word, all are empty
true_of_the_empty_word : is_true_by regexes three [] (plus 0) ≡ true
unfolding language
true_of_the_empty_word = refl

not_true_where_negated : is_true_by regexes three [] (minus 0) ≡ false
unfolding language
not_true_where_negated = refl

not_of_another_word : is_true_by regexes three (None ∷ None ∷ None ∷ Some (97 ∷ []) ∷ []) (plus 0) ≡ false
unfolding language
not_of_another_word = refl

nothing_is_said : is_true_by regexes three [] (minus 1) ≡ true
nothing_is_said = refl

known : is_atom three 2 ≡ true
known = refl

unknown : is_atom three 3 ≡ false
unknown = refl
