-- The meaning of a term under a valuation, and its truth (SMT-LIB 2.6: theories Core, Ints and Unicode Strings).
use Rattle.std.specs.Prelude.{ℕ, ℤ, pos, ◌+ℤ◌, ◌-ℤ◌, ◌*ℤ◌, Bool, true, false, not, ◌&&◌, ◌||◌, ◌==◌, if◌then◌else◌, List, [], ◌∷◌, length}
use Rattle.std.specs.Ordering.{int_cmp, is_lt, is_eq}
use Rattle.std.specs.List.{list_all, list_any, flat_map}
use Rattle.sb_lang.specs.RegLan as reglan
use Rattle.sb_lang.specs.RegLan.{RegLan}
use Rattle.sb_lang.specs.Affixes.{is_prefix, is_suffix, is_inside}
use Rattle.sb_lang.specs.Membership.{in_re, is_word}
use Rattle.sb_meaning.specs.Terms.{Symbol, Term, Terms, constant, word, numeral, apply, parameter, no_terms, with_term}
use Rattle.sb_meaning.specs.Terms as symbol
use Rattle.sb_meaning.specs.Values.{Value, Valuation, Text, Int, Truth, default_of, value_in}

-- what a term means: a word, a number, a truth value, or a regular expression over words
pub data Meaning : Type 0 where
  means_word : List ℕ → Meaning
  means_number : ℤ → Meaning
  means_truth : Bool → Meaning
  means_reglan : RegLan → Meaning

abbrev pub meaning_of_value : Value → Meaning
meaning_of_value (Text w) = means_word w
meaning_of_value (Int n) = means_number n
meaning_of_value (Truth b) = means_truth b

-- the words, numbers, truth values and regular expressions among meanings, in order
abbrev pub word_in : Meaning → List (List ℕ)
word_in (means_word w) = w ∷ []
word_in _ = []

abbrev pub number_in : Meaning → List ℤ
number_in (means_number n) = n ∷ []
number_in _ = []

abbrev pub truth_in : Meaning → List Bool
truth_in (means_truth b) = b ∷ []
truth_in _ = []

abbrev pub reglan_in : Meaning → List RegLan
reglan_in (means_reglan R) = R ∷ []
reglan_in _ = []

abbrev pub all_true : List Bool → Bool
all_true bs = list_all (λ b. b) bs

abbrev pub some_true : List Bool → Bool
some_true bs = list_any (λ b. b) bs

-- implication leans to the right
abbrev pub implied : List Bool → Bool
implied [] = true
implied (a ∷ []) = a
implied (a ∷ b ∷ bs) = not a || implied (b ∷ bs)

abbrev pub differs : Bool → Bool → Bool
differs true b = not b
differs false b = b

-- exclusive or leans to the left
abbrev pub xor_from : Bool → List Bool → Bool
xor_from a [] = a
xor_from a (b ∷ bs) = xor_from (differs a b) bs

abbrev pub xor_of : List Bool → Bool
xor_of [] = false
xor_of (a ∷ bs) = xor_from a bs

-- two meanings of one sort are one
abbrev pub are_equal : Meaning → Meaning → Bool
are_equal (means_word v) (means_word w) = is_word v w
are_equal (means_number m) (means_number n) = is_eq (int_cmp m n)
are_equal (means_truth a) (means_truth b) = not (differs a b)
are_equal _ _ = false

-- each member of a list with its neighbour behind it, and each with all members behind it
abbrev pub neighbours : {A : Type 0} → List A → List (A × A)
neighbours [] = []
neighbours (a ∷ []) = []
neighbours (a ∷ b ∷ rest) = (a, b) ∷ neighbours (b ∷ rest)

abbrev pub each_with_rest : {A : Type 0} → List A → List (A × List A)
each_with_rest [] = []
each_with_rest (a ∷ rest) = (a, rest) ∷ each_with_rest rest

-- the relation holds between each two neighbours
abbrev pub is_chain : {A : Type 0} → (A → A → Bool) → List A → Bool
is_chain relation xs = list_all (λ p. relation p.0 p.1) (neighbours xs)

-- the relation holds between each two
abbrev pub are_pairs : {A : Type 0} → (A → A → Bool) → List A → Bool
are_pairs relation xs = list_all (λ e. list_all (relation e.0) e.1) (each_with_rest xs)

abbrev pub is_less : ℤ → ℤ → Bool
is_less m n = is_lt (int_cmp m n)

abbrev pub is_at_most : ℤ → ℤ → Bool
is_at_most m n = not (is_less n m)

abbrev pub sum_of : List ℤ → ℤ
sum_of [] = pos 0
sum_of (n ∷ ns) = n +ℤ sum_of ns

abbrev pub product_of : List ℤ → ℤ
product_of [] = pos 1
product_of (n ∷ ns) = n *ℤ product_of ns

-- of one number its negation; else the first less all others
abbrev pub difference_of : List ℤ → ℤ
difference_of [] = pos 0
difference_of (n ∷ []) = pos 0 -ℤ n
difference_of (n ∷ m ∷ ns) = n -ℤ sum_of (m ∷ ns)

-- a test of two words
abbrev pub of_two_words : (List ℕ → List ℕ → Bool) → List (List ℕ) → Bool
of_two_words test (v ∷ w ∷ []) = test v w
of_two_words test _ = false

-- regular expressions joined by a symbol of two arguments, leaning to the right, and to the left
abbrev pub joined_right : (RegLan → RegLan → RegLan) → List RegLan → RegLan
joined_right join [] = reglan.re_none
joined_right join (R ∷ []) = R
joined_right join (R ∷ S ∷ rest) = join R (joined_right join (S ∷ rest))

abbrev pub joined_from : (RegLan → RegLan → RegLan) → RegLan → List RegLan → RegLan
joined_from join R [] = R
joined_from join R (S ∷ rest) = joined_from join (join R S) rest

abbrev pub joined_left : (RegLan → RegLan → RegLan) → List RegLan → RegLan
joined_left join [] = reglan.re_none
joined_left join (R ∷ rest) = joined_from join R rest

abbrev pub of_one : (RegLan → RegLan) → List RegLan → RegLan
of_one make (R ∷ []) = make R
of_one make _ = reglan.re_none

abbrev pub of_range : List (List ℕ) → RegLan
of_range (s ∷ t ∷ []) = reglan.re_range s t
of_range _ = reglan.re_none

abbrev pub of_word : List (List ℕ) → RegLan
of_word (w ∷ []) = reglan.re_word w
of_word _ = reglan.re_none

-- the first word is in the first regular expression
abbrev pub is_member : List (List ℕ) → List RegLan → Bool
is_member (w ∷ []) (R ∷ []) = in_re R w
is_member _ _ = false

-- the second where the first is true, else the third
abbrev pub chosen : List Meaning → Meaning
chosen (means_truth c ∷ a ∷ b ∷ []) = if c then a else b
chosen _ = means_truth false

-- what a symbol makes of the meanings of its arguments
abbrev pub applied : Symbol → List Meaning → Meaning
applied symbol.core_true ms = means_truth true
applied symbol.core_false ms = means_truth false
applied symbol.core_not ms = means_truth (not (all_true (flat_map truth_in ms)))
applied symbol.core_and ms = means_truth (all_true (flat_map truth_in ms))
applied symbol.core_or ms = means_truth (some_true (flat_map truth_in ms))
applied symbol.core_implies ms = means_truth (implied (flat_map truth_in ms))
applied symbol.core_xor ms = means_truth (xor_of (flat_map truth_in ms))
applied symbol.core_ite ms = chosen ms
applied symbol.core_equal ms = means_truth (is_chain are_equal ms)
applied symbol.core_distinct ms = means_truth (are_pairs (λ a b. not (are_equal a b)) ms)
applied symbol.at_most ms = means_truth (is_chain is_at_most (flat_map number_in ms))
applied symbol.less ms = means_truth (is_chain is_less (flat_map number_in ms))
applied symbol.at_least ms = means_truth (is_chain (λ m n. is_at_most n m) (flat_map number_in ms))
applied symbol.greater ms = means_truth (is_chain (λ m n. is_less n m) (flat_map number_in ms))
applied symbol.plus ms = means_number (sum_of (flat_map number_in ms))
applied symbol.times ms = means_number (product_of (flat_map number_in ms))
applied symbol.minus ms = means_number (difference_of (flat_map number_in ms))
applied symbol.str_concat ms = means_word (flat_map (λ w. w) (flat_map word_in ms))
applied symbol.str_len ms = means_number (pos (length (flat_map (λ w. w) (flat_map word_in ms))))
applied symbol.str_in_re ms = means_truth (is_member (flat_map word_in ms) (flat_map reglan_in ms))
applied symbol.str_prefixof ms = means_truth (of_two_words is_prefix (flat_map word_in ms))
applied symbol.str_suffixof ms = means_truth (of_two_words is_suffix (flat_map word_in ms))
applied symbol.str_contains ms = means_truth (of_two_words (λ t s. is_inside s t) (flat_map word_in ms))
applied symbol.str_to_re ms = means_reglan (of_word (flat_map word_in ms))
applied symbol.re_none ms = means_reglan reglan.re_none
applied symbol.re_all ms = means_reglan reglan.re_all
applied symbol.re_allchar ms = means_reglan reglan.re_allchar
applied symbol.re_concat ms = means_reglan (joined_right reglan.re_concat (flat_map reglan_in ms))
applied symbol.re_union ms = means_reglan (joined_right reglan.re_union (flat_map reglan_in ms))
applied symbol.re_inter ms = means_reglan (joined_right reglan.re_inter (flat_map reglan_in ms))
applied symbol.re_diff ms = means_reglan (joined_left reglan.re_diff (flat_map reglan_in ms))
applied symbol.re_star ms = means_reglan (of_one reglan.re_star (flat_map reglan_in ms))
applied symbol.re_plus ms = means_reglan (of_one reglan.re_plus (flat_map reglan_in ms))
applied symbol.re_opt ms = means_reglan (of_one reglan.re_opt (flat_map reglan_in ms))
applied symbol.re_comp ms = means_reglan (of_one reglan.re_comp (flat_map reglan_in ms))
applied symbol.re_range ms = means_reglan (of_range (flat_map word_in ms))
applied (symbol.re_power n) ms = means_reglan (of_one (λ R. reglan.re_power R n) (flat_map reglan_in ms))
applied (symbol.re_loop n m) ms = means_reglan (of_one (λ R. reglan.re_loop R n m) (flat_map reglan_in ms))

-- the meaning of a term under a valuation
abbrev mutual
  pub meaning_of : Valuation → Term → Meaning
  meaning_of v (constant serial sort) = meaning_of_value (value_in v serial sort)
  meaning_of v (word w) = means_word w
  meaning_of v (numeral n) = means_number (pos n)
  meaning_of v (apply s terms) = applied s (meanings_of v terms)
  meaning_of v (parameter place sort) = meaning_of_value (default_of sort)

  pub meanings_of : Valuation → Terms → List Meaning
  meanings_of v no_terms = []
  meanings_of v (with_term term terms) = meaning_of v term ∷ meanings_of v terms

-- the term is true under the valuation
abbrev pub holds : Term → Valuation → Bool
holds term v = all_true (truth_in (meaning_of v term))

-- each term is true under the valuation
abbrev pub all_hold : List Term → Valuation → Bool
all_hold ts v = list_all (λ t. holds t v) ts
