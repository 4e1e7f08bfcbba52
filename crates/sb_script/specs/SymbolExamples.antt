-- Computed examples of symbols with arguments: for each symbol of the theories a right use, one of a wrong sort and one
-- with too few or too many arguments.
use Rattle.std.specs.Prelude.{◌≡◌, ℕ, Bool, true, false, List, [], ◌∷◌, filter, length, codes, Option, Some, is_none, Ok, Err, refl}
use Rattle.std.specs.List.{list_all}
use Rattle.sb_word.specs.Literals.{hex_value, hex_number_from}
use Rattle.sb_reader.specs.Forms.{Form, Numeral, OtherNumber, Symbol}
use Rattle.sb_meaning.specs.Terms.{Sort, boolean, integer, text, reglan, Term, Terms, constant, word, numeral, apply, no_terms, with_term}
use Rattle.sb_meaning.specs.Terms as symbol
use Rattle.sb_script.specs.Faults.{Fault, wrong_sort, wrong_count, bad_index, unsupported, numeral_too_large}
use Rattle.sb_script.specs.Symbols.{symbols_of_theories, indexed_symbols, left_out_names, is_brought_row, symbol_named, is_left_out}
use Rattle.sb_script.specs.Heads.{judged, made, head_symbol, head_term, head_constant, applied_to, with_indices, indices_of, character_word}
use Rattle.sb_script.specs.ReadingExamples.{forms}

abbrev Use : Type 0
Use = symbol.Symbol × List Sort

abbrev right : List Use
right =
    (symbol.core_true, [])
    ∷ (symbol.core_false, [])
    ∷ (symbol.core_not, boolean ∷ [])
    ∷ (symbol.core_and, boolean ∷ [])
    ∷ (symbol.core_and, boolean ∷ boolean ∷ boolean ∷ [])
    ∷ (symbol.core_or, boolean ∷ [])
    ∷ (symbol.core_or, boolean ∷ boolean ∷ [])
    ∷ (symbol.core_implies, boolean ∷ boolean ∷ boolean ∷ [])
    ∷ (symbol.core_xor, boolean ∷ boolean ∷ [])
    ∷ (symbol.core_ite, boolean ∷ boolean ∷ boolean ∷ [])
    ∷ (symbol.core_equal, boolean ∷ boolean ∷ [])
    ∷ (symbol.core_equal, text ∷ text ∷ text ∷ [])
    ∷ (symbol.core_distinct, integer ∷ integer ∷ [])
    ∷ (symbol.at_most, integer ∷ integer ∷ integer ∷ [])
    ∷ (symbol.less, integer ∷ integer ∷ [])
    ∷ (symbol.at_least, integer ∷ integer ∷ [])
    ∷ (symbol.greater, integer ∷ integer ∷ [])
    ∷ (symbol.plus, integer ∷ [])
    ∷ (symbol.plus, integer ∷ integer ∷ [])
    ∷ (symbol.times, integer ∷ [])
    ∷ (symbol.minus, integer ∷ [])
    ∷ (symbol.minus, integer ∷ integer ∷ integer ∷ [])
    ∷ (symbol.str_concat, text ∷ [])
    ∷ (symbol.str_concat, text ∷ text ∷ [])
    ∷ (symbol.str_len, text ∷ [])
    ∷ (symbol.str_in_re, text ∷ reglan ∷ [])
    ∷ (symbol.str_prefixof, text ∷ text ∷ [])
    ∷ (symbol.str_suffixof, text ∷ text ∷ [])
    ∷ (symbol.str_contains, text ∷ text ∷ [])
    ∷ (symbol.str_to_re, text ∷ [])
    ∷ (symbol.re_none, [])
    ∷ (symbol.re_all, [])
    ∷ (symbol.re_allchar, [])
    ∷ (symbol.re_concat, reglan ∷ [])
    ∷ (symbol.re_union, reglan ∷ reglan ∷ [])
    ∷ (symbol.re_inter, reglan ∷ reglan ∷ reglan ∷ [])
    ∷ (symbol.re_diff, reglan ∷ reglan ∷ [])
    ∷ (symbol.re_star, reglan ∷ [])
    ∷ (symbol.re_plus, reglan ∷ [])
    ∷ (symbol.re_opt, reglan ∷ [])
    ∷ (symbol.re_comp, reglan ∷ [])
    ∷ (symbol.re_range, text ∷ text ∷ [])
    ∷ (symbol.re_power 3, reglan ∷ [])
    ∷ (symbol.re_loop 3 5, reglan ∷ []) ∷ []

right_uses : list_all (λ u. is_none (judged u.0 u.1)) right ≡ true
right_uses = refl

abbrev is_wrong_sort : Option Fault → Bool
is_wrong_sort (Some wrong_sort) = true
is_wrong_sort _ = false

abbrev is_wrong_count : Option Fault → Bool
is_wrong_count (Some wrong_count) = true
is_wrong_count _ = false

abbrev is_unsupported : Option Fault → Bool
is_unsupported (Some unsupported) = true
is_unsupported _ = false

abbrev of_wrong_sorts : List Use
of_wrong_sorts =
    (symbol.core_not, text ∷ [])
    ∷ (symbol.core_and, boolean ∷ integer ∷ [])
    ∷ (symbol.core_or, reglan ∷ [])
    ∷ (symbol.core_implies, boolean ∷ text ∷ [])
    ∷ (symbol.core_xor, integer ∷ boolean ∷ [])
    ∷ (symbol.core_ite, integer ∷ boolean ∷ boolean ∷ [])
    ∷ (symbol.core_ite, boolean ∷ boolean ∷ text ∷ [])
    ∷ (symbol.core_ite, integer ∷ integer ∷ integer ∷ [])
    ∷ (symbol.core_equal, reglan ∷ text ∷ [])
    ∷ (symbol.core_equal, text ∷ text ∷ integer ∷ [])
    ∷ (symbol.core_distinct, boolean ∷ text ∷ [])
    ∷ (symbol.at_most, integer ∷ text ∷ [])
    ∷ (symbol.less, boolean ∷ integer ∷ [])
    ∷ (symbol.at_least, text ∷ text ∷ [])
    ∷ (symbol.greater, reglan ∷ integer ∷ [])
    ∷ (symbol.plus, text ∷ [])
    ∷ (symbol.times, integer ∷ boolean ∷ [])
    ∷ (symbol.minus, text ∷ [])
    ∷ (symbol.str_concat, text ∷ reglan ∷ [])
    ∷ (symbol.str_len, reglan ∷ [])
    ∷ (symbol.str_in_re, reglan ∷ text ∷ [])
    ∷ (symbol.str_prefixof, text ∷ reglan ∷ [])
    ∷ (symbol.str_suffixof, integer ∷ text ∷ [])
    ∷ (symbol.str_contains, text ∷ boolean ∷ [])
    ∷ (symbol.str_to_re, reglan ∷ [])
    ∷ (symbol.re_concat, reglan ∷ text ∷ [])
    ∷ (symbol.re_union, text ∷ [])
    ∷ (symbol.re_inter, reglan ∷ boolean ∷ [])
    ∷ (symbol.re_diff, reglan ∷ text ∷ [])
    ∷ (symbol.re_star, text ∷ [])
    ∷ (symbol.re_plus, text ∷ [])
    ∷ (symbol.re_opt, integer ∷ [])
    ∷ (symbol.re_comp, text ∷ [])
    ∷ (symbol.re_range, text ∷ reglan ∷ [])
    ∷ (symbol.re_power 3, text ∷ [])
    ∷ (symbol.re_loop 3 5, text ∷ []) ∷ []

wrong_sorts : list_all (λ u. is_wrong_sort (judged u.0 u.1)) of_wrong_sorts ≡ true
wrong_sorts = refl

abbrev of_wrong_counts : List Use
of_wrong_counts =
    (symbol.core_true, boolean ∷ [])
    ∷ (symbol.core_false, text ∷ [])
    ∷ (symbol.core_not, boolean ∷ boolean ∷ [])
    ∷ (symbol.core_and, [])
    ∷ (symbol.core_or, [])
    ∷ (symbol.core_implies, boolean ∷ [])
    ∷ (symbol.core_xor, boolean ∷ [])
    ∷ (symbol.core_ite, boolean ∷ boolean ∷ [])
    ∷ (symbol.core_equal, text ∷ [])
    ∷ (symbol.core_distinct, reglan ∷ [])
    ∷ (symbol.at_most, integer ∷ [])
    ∷ (symbol.less, [])
    ∷ (symbol.at_least, integer ∷ [])
    ∷ (symbol.greater, text ∷ [])
    ∷ (symbol.plus, [])
    ∷ (symbol.times, [])
    ∷ (symbol.minus, [])
    ∷ (symbol.str_concat, [])
    ∷ (symbol.str_len, text ∷ text ∷ [])
    ∷ (symbol.str_in_re, text ∷ [])
    ∷ (symbol.str_prefixof, text ∷ [])
    ∷ (symbol.str_suffixof, text ∷ text ∷ text ∷ [])
    ∷ (symbol.str_contains, [])
    ∷ (symbol.str_to_re, [])
    ∷ (symbol.re_none, reglan ∷ [])
    ∷ (symbol.re_all, reglan ∷ [])
    ∷ (symbol.re_allchar, text ∷ [])
    ∷ (symbol.re_concat, [])
    ∷ (symbol.re_union, [])
    ∷ (symbol.re_inter, [])
    ∷ (symbol.re_diff, reglan ∷ [])
    ∷ (symbol.re_star, reglan ∷ reglan ∷ [])
    ∷ (symbol.re_plus, [])
    ∷ (symbol.re_opt, [])
    ∷ (symbol.re_comp, reglan ∷ reglan ∷ [])
    ∷ (symbol.re_range, text ∷ [])
    ∷ (symbol.re_power 3, [])
    ∷ (symbol.re_loop 3 5, reglan ∷ reglan ∷ []) ∷ []

wrong_counts : list_all (λ u. is_wrong_count (judged u.0 u.1)) of_wrong_counts ≡ true
wrong_counts = refl

-- Left out, and judged behind the sorts: regular expressions compared, and a choice of words, numbers or regular
-- expressions.
abbrev left_out : List Use
left_out =
    (symbol.core_equal, reglan ∷ reglan ∷ [])
    ∷ (symbol.core_distinct, reglan ∷ reglan ∷ reglan ∷ [])
    ∷ (symbol.core_ite, boolean ∷ text ∷ text ∷ [])
    ∷ (symbol.core_ite, boolean ∷ integer ∷ integer ∷ [])
    ∷ (symbol.core_ite, boolean ∷ reglan ∷ reglan ∷ []) ∷ []

left_out_uses : list_all (λ u. is_unsupported (judged u.0 u.1)) left_out ≡ true
left_out_uses = refl

-- Of the names of the theories so many are read, with and without indices, and so many are left out.
names_read : length (filter is_brought_row symbols_of_theories) ≡ 28
names_read = refl

names_with_indices : length (filter is_brought_row indexed_symbols) ≡ 2
names_with_indices = refl

names_not_read : length left_out_names ≡ 28
names_not_read = refl

a_name_that_is_read : symbol_named (codes "re.opt") ≡ Some symbol.re_opt
a_name_that_is_read = refl

a_name_of_words : symbol_named (codes "str.++") ≡ Some symbol.str_concat
a_name_of_words = refl

a_name_of_affixes : symbol_named (codes "str.contains") ≡ Some symbol.str_contains
a_name_of_affixes = refl

a_name_to_come : is_left_out (codes "str.len") ≡ true
a_name_to_come = refl

-- One argument where two are asked for is the argument itself: (+ 5), (or p), (str.++ x); (- 5) is a negation.
one_number : made symbol.plus (numeral 5 ∷ []) ≡ numeral 5
one_number = refl

one_truth : made symbol.core_or (constant 3 boolean ∷ []) ≡ constant 3 boolean
one_truth = refl

one_word : made symbol.str_concat (constant 0 text ∷ []) ≡ constant 0 text
one_word = refl

a_negation : made symbol.minus (numeral 5 ∷ []) ≡ apply symbol.minus (with_term (numeral 5) no_terms)
a_negation = refl

two_numbers : made symbol.plus (numeral 5 ∷ numeral 6 ∷ [])
    ≡ apply symbol.plus (with_term (numeral 5) (with_term (numeral 6) no_terms))
two_numbers = refl

-- Heads that take no arguments: a constant, and a name that a let binds.
constant_with_argument : applied_to (head_constant 0 text) (numeral 5 ∷ []) ≡ Err wrong_count
constant_with_argument = refl

bound_with_argument : applied_to (head_term (word [])) (numeral 5 ∷ []) ≡ Err wrong_count
bound_with_argument = refl

-- Indices: their number and kind, then their size.
abbrev numerals : List (List ℕ) → List Form
numerals [] = []
numerals (n ∷ ns) = Numeral n ∷ numerals ns

a_power : with_indices (codes "re.^") (indices_of (forms (numerals (codes "65535" ∷ []))))
    ≡ Ok (head_symbol (symbol.re_power 65535))
a_power = refl

a_loop : with_indices (codes "re.loop") (indices_of (forms (numerals (codes "3" ∷ codes "2" ∷ []))))
    ≡ Ok (head_symbol (symbol.re_loop 3 2))
a_loop = refl

an_index_too_large : with_indices (codes "re.^") (indices_of (forms (numerals (codes "65536" ∷ []))))
    ≡ Err numeral_too_large
an_index_too_large = refl

too_large_in_a_loop : with_indices (codes "re.loop") (indices_of (forms (numerals (codes "0" ∷ codes "65536" ∷ []))))
    ≡ Err numeral_too_large
too_large_in_a_loop = refl

-- the kind is judged before the size
a_kind_before_a_size :
    with_indices (codes "re.loop") (indices_of (forms (Numeral (codes "65536") ∷ Symbol (codes "x") ∷ [])))
    ≡ Err bad_index
a_kind_before_a_size = refl

too_few_indices : with_indices (codes "re.loop") (indices_of (forms (numerals (codes "3" ∷ [])))) ≡ Err bad_index
too_few_indices = refl

too_many_indices : with_indices (codes "re.^") (indices_of (forms (numerals (codes "3" ∷ codes "3" ∷ []))))
    ≡ Err bad_index
too_many_indices = refl

no_index : with_indices (codes "re.^") (Some []) ≡ Err bad_index
no_index = refl

-- (_ char #x61), up to five digits and 2ffff
a_character : character_word (forms (OtherNumber (codes "#x61") ∷ [])) ≡ Ok (head_term (word (97 ∷ [])))
unfolding hex_value hex_number_from
a_character = refl

the_last_character : character_word (forms (OtherNumber (codes "#x2fFff") ∷ [])) ≡ Ok (head_term (word (0x2ffff ∷ [])))
unfolding hex_value hex_number_from
the_last_character = refl

behind_the_last_character : character_word (forms (OtherNumber (codes "#x30000") ∷ [])) ≡ Err bad_index
unfolding hex_value hex_number_from
behind_the_last_character = refl

six_digits : character_word (forms (OtherNumber (codes "#x000061") ∷ [])) ≡ Err bad_index
unfolding hex_value hex_number_from
six_digits = refl

a_binary_character : character_word (forms (OtherNumber (codes "#b1") ∷ [])) ≡ Err bad_index
unfolding hex_value hex_number_from
a_binary_character = refl

a_numeral_as_character : character_word (forms (Numeral (codes "61") ∷ [])) ≡ Err bad_index
a_numeral_as_character = refl
