-- The values that a trail gives constants, by serial.
use Rattle.std.specs.Prelude.{ℕ, Bool, true, false, ◌&&◌, ◌==◌, List, [], get_or, slice_get, Option, Some, None, unwrap_or}
use Rattle.sb_solve.specs.Words.{Assigned, AtomOver, bool_atom, list_all, list_any, value_of}
use Rattle.sb_word.specs.Words.{are_characters}

-- the atom is true on the trail
abbrev pub is_true : List Assigned → ℕ → Bool
is_true entries atom = unwrap_or (value_of entries atom) false

-- the atom is that of the Bool constant
abbrev pub constant_is : ℕ → AtomOver ℕ → Bool
constant_is serial (bool_atom s) = s == serial
constant_is serial _ = false

abbrev pub is_constant : ℕ → Option (AtomOver ℕ) → Bool
is_constant serial None = false
is_constant serial (Some atom) = constant_is serial atom

-- the atom makes the Bool constant true
abbrev pub makes_true : List (AtomOver ℕ) → List Assigned → ℕ → ℕ → Bool
makes_true atoms entries serial i = is_constant serial (slice_get atoms i) && is_true entries i

-- a Bool constant is true where one of these atoms makes it true
abbrev pub truth_by : List (AtomOver ℕ) → List Assigned → List ℕ → ℕ → Bool
truth_by atoms entries wanted serial = list_any (makes_true atoms entries serial) wanted

-- past the last one it is false
abbrev pub truth_in : List Bool → ℕ → Bool
truth_in truths serial = get_or truths serial false

-- the empty word where there is none
abbrev pub word_or_empty : Option (List ℕ) → List ℕ
word_or_empty word = unwrap_or word []

-- past the last one the word is empty
abbrev pub word_in : List (List ℕ) → ℕ → List ℕ
word_in words serial = get_or words serial []

-- Words of some constants alone.

-- the word of the constant, `None` where there is none, and past the last one
abbrev pub word_there : List (Option (List ℕ)) → ℕ → Option (List ℕ)
word_there words serial = get_or words serial None

-- where there is a word, it is one of characters
abbrev pub is_word_there : Option (List ℕ) → Bool
is_word_there None = true
is_word_there (Some word) = are_characters word

abbrev pub are_words_there : List (Option (List ℕ)) → Bool
are_words_there words = list_all is_word_there words
