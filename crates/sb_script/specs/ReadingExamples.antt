-- Computed examples of how terms are read, and of names.
use Rattle.std.specs.Prelude.{◌≡◌, ℕ, List, [], ◌∷◌, codes, Ok, Err, refl}
use Rattle.sb_reader.specs.Forms.{Form, Forms, Symbol, QuotedSymbol, Keyword, Numeral, OtherNumber, Words, Group, none, more}
use Rattle.sb_word.specs.Literals.{hex_value, hex_number_from}
use Rattle.sb_script.specs.Names.{name_text, name_in_text}
use Rattle.sb_meaning.specs.Terms.{Term, boolean, text, constant, word, apply, no_terms, with_term}
use Rattle.sb_meaning.specs.Terms as symbol
use Rattle.sb_script.specs.Scopes.{Naming, a_constant, a_marked_name}
use Rattle.sb_script.specs.Faults.{unknown_symbol, wrong_sort, wrong_count, bad_index, unsupported, numeral_too_large, bad_literal, malformed}
use Rattle.sb_script.specs.Reading.{read}

abbrev pub forms : List Form → Forms
forms [] = none
forms (f ∷ fs) = more f (forms fs)

abbrev pub group : List Form → Form
group fs = Group (forms fs)

abbrev a : Form
a = Words (codes "a")

abbrev b : Form
b = Words (codes "b")

abbrev x : Form
x = Symbol (codes "x")

abbrev y : Form
y = Symbol (codes "y")

-- x is a constant, and m a marked name
abbrev names : List Naming
names = (codes "x", a_constant 0 text) ∷ (codes "m", a_marked_name) ∷ []

abbrev pub range : Form → Form → Form
range from to = group (Symbol (codes "re.range") ∷ from ∷ to ∷ [])

-- (str.in_re x (re.+ (re.range "a" "b")))
reads_a_membership :
    read names (group (Symbol (codes "str.in_re") ∷ x ∷ group (Symbol (codes "re.+") ∷ range a b ∷ []) ∷ []))
    ≡ Ok (apply symbol.str_in_re
    (with_term (constant 0 text)
    (with_term (apply symbol.re_plus
    (with_term (apply symbol.re_range (with_term (word (97 ∷ [])) (with_term (word (98 ∷ [])) no_terms))) no_terms))
    no_terms)))
reads_a_membership = refl

-- |x| and x are one name
a_quoted_name : read names (QuotedSymbol (codes "x")) ≡ Ok (constant 0 text)
a_quoted_name = refl

-- (re.range "a" y z): the first fault is that of y, before the number of arguments
first_fault : read names (group (Symbol (codes "re.range") ∷ a ∷ y ∷ Symbol (codes "z") ∷ []))
    ≡ Err (unknown_symbol (codes "y"))
first_fault = refl

-- (re.range "a" "b" x): the number is judged behind the arguments
number_behind_arguments : read names (group (Symbol (codes "re.range") ∷ a ∷ b ∷ x ∷ [])) ≡ Err wrong_count
number_behind_arguments = refl

-- (re.+ "a")
sort_of_an_argument : read names (group (Symbol (codes "re.+") ∷ a ∷ [])) ≡ Err wrong_sort
sort_of_an_argument = refl

-- (re.union R S T) has its arguments as they stand, and (re.union R) is R
abbrev a_range : Term
a_range = apply symbol.re_range (with_term (word (97 ∷ [])) (with_term (word (98 ∷ [])) no_terms))

three_in_a_union : read names (group (Symbol (codes "re.union") ∷ range a b ∷ range a b ∷ range a b ∷ []))
    ≡ Ok (apply symbol.re_union (with_term a_range (with_term a_range (with_term a_range no_terms))))
three_in_a_union = refl

one_in_a_union : read names (group (Symbol (codes "re.union") ∷ range a b ∷ [])) ≡ Ok a_range
one_in_a_union = refl

-- (= x "a"), of Strings or of truth values, two or more; of regular expressions it is left out, which is judged behind
-- the sorts
abbrev equals : List Form → Form
equals fs = group (Symbol (codes "=") ∷ fs)

an_equality : read names (equals (x ∷ a ∷ []))
    ≡ Ok (apply symbol.core_equal (with_term (constant 0 text) (with_term (word (97 ∷ [])) no_terms)))
an_equality = refl

an_equality_of_three : read names (equals (x ∷ a ∷ b ∷ []))
    ≡ Ok (apply symbol.core_equal
    (with_term (constant 0 text) (with_term (word (97 ∷ [])) (with_term (word (98 ∷ [])) no_terms))))
an_equality_of_three = refl

an_equality_of_one : read names (equals (x ∷ [])) ≡ Err wrong_count
an_equality_of_one = refl

an_equality_of_two_sorts : read names (equals (x ∷ range a b ∷ [])) ≡ Err wrong_sort
an_equality_of_two_sorts = refl

an_equality_of_expressions : read names (equals (range a b ∷ range a b ∷ [])) ≡ Err unsupported
an_equality_of_expressions = refl

-- the equality of x with a character, and (= (= x "a") (= x "b"))
abbrev x_is : ℕ → Term
x_is c = apply symbol.core_equal (with_term (constant 0 text) (with_term (word (c ∷ [])) no_terms))

an_equality_of_truth_values : read names (equals (equals (x ∷ a ∷ []) ∷ equals (x ∷ b ∷ []) ∷ []))
    ≡ Ok (apply symbol.core_equal (with_term (x_is 97) (with_term (x_is 98) no_terms)))
an_equality_of_truth_values = refl

-- (str.++ x "a" (str.++ x "b")) has its arguments as they stand, and (str.++ x) is x; of another sort, of a marked name,
-- and of nothing
abbrev concat : List Form → Form
concat fs = group (Symbol (codes "str.++") ∷ fs)

a_concatenation : read names (concat (x ∷ a ∷ concat (x ∷ b ∷ []) ∷ []))
    ≡ Ok (apply symbol.str_concat
    (with_term (constant 0 text)
    (with_term (word (97 ∷ []))
    (with_term (apply symbol.str_concat (with_term (constant 0 text) (with_term (word (98 ∷ [])) no_terms)))
    no_terms))))
a_concatenation = refl

a_concatenation_of_one : read names (concat (concat (x ∷ []) ∷ [])) ≡ Ok (constant 0 text)
a_concatenation_of_one = refl

a_concatenation_of_expressions : read names (concat (x ∷ range a b ∷ [])) ≡ Err wrong_sort
a_concatenation_of_expressions = refl

a_concatenation_with_a_mark : read names (concat (x ∷ Symbol (codes "m") ∷ y ∷ [])) ≡ Err unsupported
a_concatenation_with_a_mark = refl

a_concatenation_of_nothing : read names (concat []) ≡ Err malformed
a_concatenation_of_nothing = refl

-- (re.range (str.++ "a") "b"): anywhere a String stands
a_concatenation_within : read names (range (concat (a ∷ [])) b) ≡ Ok a_range
a_concatenation_within = refl

-- Boolean structure, with a Bool constant p beside x.
abbrev names_with_p : List Naming
names_with_p = (codes "p", a_constant 1 boolean) ∷ names

abbrev p : Form
p = Symbol (codes "p")

abbrev the_p : Term
the_p = constant 1 boolean

-- a list with this head
abbrev of : List ℕ → List Form → Form
of name fs = group (Symbol name ∷ fs)

-- true, and (or p (not (= x "a")) false)
a_truth : read names_with_p (Symbol (codes "true")) ≡ Ok (apply symbol.core_true no_terms)
a_truth = refl

a_disjunction :
    read names_with_p
    (of (codes "or") (p ∷ of (codes "not") (equals (x ∷ a ∷ []) ∷ []) ∷ Symbol (codes "false") ∷ []))
    ≡ Ok (apply symbol.core_or
    (with_term the_p
    (with_term (apply symbol.core_not (with_term (x_is 97) no_terms))
    (with_term (apply symbol.core_false no_terms) no_terms))))
a_disjunction = refl

-- (and p) is p, and (xor p) and (=> p) have too few arguments
one_in_a_conjunction : read names_with_p (of (codes "and") (p ∷ [])) ≡ Ok the_p
one_in_a_conjunction = refl

one_in_an_implication : read names_with_p (of (codes "=>") (p ∷ [])) ≡ Err wrong_count
one_in_an_implication = refl

one_that_is_exclusive : read names_with_p (of (codes "xor") (p ∷ [])) ≡ Err wrong_count
one_that_is_exclusive = refl

-- (ite p p (= x "b")); a choice of words is left out, and one between words by a word is of the wrong sort
a_choice : read names_with_p (of (codes "ite") (p ∷ p ∷ equals (x ∷ b ∷ []) ∷ []))
    ≡ Ok (apply symbol.core_ite (with_term the_p (with_term the_p (with_term (x_is 98) no_terms))))
a_choice = refl

a_choice_of_words : read names_with_p (of (codes "ite") (p ∷ x ∷ a ∷ [])) ≡ Err unsupported
a_choice_of_words = refl

a_choice_by_a_word : read names_with_p (of (codes "ite") (x ∷ p ∷ p ∷ [])) ≡ Err wrong_sort
a_choice_by_a_word = refl

-- (distinct x "a" "b"), and of two sorts
distinct_words : read names_with_p (of (codes "distinct") (x ∷ a ∷ b ∷ []))
    ≡ Ok (apply symbol.core_distinct
    (with_term (constant 0 text) (with_term (word (97 ∷ [])) (with_term (word (98 ∷ [])) no_terms))))
distinct_words = refl

distinct_of_two_sorts : read names_with_p (of (codes "distinct") (p ∷ x ∷ [])) ≡ Err wrong_sort
distinct_of_two_sorts = refl

-- (and p x)
a_word_as_a_truth_value : read names_with_p (of (codes "and") (p ∷ x ∷ [])) ≡ Err wrong_sort
a_word_as_a_truth_value = refl

-- (re.diff (re.comp re.none) (re.opt re.allchar) re.all), from the left as it stands
abbrev no_word : Form
no_word = Symbol (codes "re.none")

abbrev every_word : Form
every_word = Symbol (codes "re.all")

a_difference : read names
    (group (Symbol (codes "re.diff") ∷ group (Symbol (codes "re.comp") ∷ no_word ∷ [])
    ∷ group (Symbol (codes "re.opt") ∷ Symbol (codes "re.allchar") ∷ []) ∷ every_word ∷ []))
    ≡ Ok (apply symbol.re_diff
    (with_term (apply symbol.re_comp (with_term (apply symbol.re_none no_terms) no_terms))
    (with_term (apply symbol.re_opt (with_term (apply symbol.re_allchar no_terms) no_terms))
    (with_term (apply symbol.re_all no_terms) no_terms))))
a_difference = refl

-- (re.inter R) is R; (re.diff R) has too few arguments, (re.comp R S) too many, and re.opt alone none
one_in_an_intersection : read names (group (Symbol (codes "re.inter") ∷ range a b ∷ [])) ≡ Ok a_range
one_in_an_intersection = refl

one_in_a_difference : read names (group (Symbol (codes "re.diff") ∷ range a b ∷ [])) ≡ Err wrong_count
one_in_a_difference = refl

two_in_a_complement : read names (group (Symbol (codes "re.comp") ∷ range a b ∷ range a b ∷ [])) ≡ Err wrong_count
two_in_a_complement = refl

option_of_nothing : read names (Symbol (codes "re.opt")) ≡ Err wrong_count
option_of_nothing = refl

-- (re.none) is of no shape, (re.all R) has an argument too many, and (re.comp "a") one of another sort
none_in_a_list : read names (group (no_word ∷ [])) ≡ Err malformed
none_in_a_list = refl

all_of_an_argument : read names (group (every_word ∷ range a b ∷ [])) ≡ Err wrong_count
all_of_an_argument = refl

complement_of_a_word : read names (group (Symbol (codes "re.comp") ∷ a ∷ [])) ≡ Err wrong_sort
complement_of_a_word = refl

-- (re.++ R "a"), (re.* "a") and re.++ alone
sort_of_a_part : read names (group (Symbol (codes "re.++") ∷ range a b ∷ a ∷ [])) ≡ Err wrong_sort
sort_of_a_part = refl

sort_of_a_body : read names (group (Symbol (codes "re.*") ∷ a ∷ [])) ≡ Err wrong_sort
sort_of_a_body = refl

concatenation_without_parts : read names (Symbol (codes "re.++")) ≡ Err wrong_count
concatenation_without_parts = refl

-- (str.to_re x) is well sorted
word_of_a_constant : read names (group (Symbol (codes "str.to_re") ∷ x ∷ []))
    ≡ Ok (apply symbol.str_to_re (with_term (constant 0 text) no_terms))
word_of_a_constant = refl

-- (x "a"), and re.range alone
constant_with_an_argument : read names (group (x ∷ a ∷ [])) ≡ Err wrong_count
constant_with_an_argument = refl

symbol_without_arguments : read names (Symbol (codes "re.range")) ≡ Err wrong_count
symbol_without_arguments = refl

-- (f), whatever f is; (let ((z x)) z)
shape_before_head : read names (group (Symbol (codes "f") ∷ [])) ≡ Err malformed
shape_before_head = refl

a_let_is_read : read names
    (group (Symbol (codes "let") ∷ group (group (Symbol (codes "z") ∷ x ∷ []) ∷ []) ∷ Symbol (codes "z") ∷ []))
    ≡ read names x
a_let_is_read = refl

-- an annotation is left out, and a wrong shape comes first: (! x :named a), (! x :weight "a" :named a), (! x :weight);
-- (! x), (! x "a"), (! x :named), (! x :named let), (! x :weight "a" "b")
abbrev annotated : List Form → Form
annotated fs = group (Symbol (codes "!") ∷ x ∷ fs)

abbrev named : Form
named = Keyword (codes ":named")

abbrev weight : Form
weight = Keyword (codes ":weight")

a_named_term : read names (annotated (named ∷ y ∷ [])) ≡ Err unsupported
a_named_term = refl

two_annotations : read names (annotated (weight ∷ a ∷ named ∷ y ∷ [])) ≡ Err unsupported
two_annotations = refl

an_annotation_without_a_value : read names (annotated (weight ∷ [])) ≡ Err unsupported
an_annotation_without_a_value = refl

no_annotation : read names (annotated []) ≡ Err malformed
no_annotation = refl

no_key : read names (annotated (a ∷ [])) ≡ Err malformed
no_key = refl

no_name : read names (annotated (named ∷ [])) ≡ Err malformed
no_name = refl

named_by_a_reserved_word : read names (annotated (named ∷ Symbol (codes "let") ∷ [])) ≡ Err malformed
named_by_a_reserved_word = refl

two_values : read names (annotated (weight ∷ a ∷ b ∷ [])) ≡ Err malformed
two_values = refl

-- let alone
reserved_in_a_term : read names (Symbol (codes "let")) ≡ Err malformed
reserved_in_a_term = refl

-- ((_ re.^ 2) R), ((_ re.loop 3 2) R), and ((_ re.^ 2) x) of a constant of another sort
abbrev power_of_two : Form
power_of_two = group (Symbol (codes "_") ∷ Symbol (codes "re.^") ∷ Numeral (codes "2") ∷ [])

a_power : read names (group (power_of_two ∷ range a b ∷ [])) ≡ Ok (apply (symbol.re_power 2) (with_term a_range no_terms))
a_power = refl

a_loop : read names
    (group (group (Symbol (codes "_") ∷ Symbol (codes "re.loop") ∷ Numeral (codes "3") ∷ Numeral (codes "2") ∷ [])
    ∷ range a b ∷ [])) ≡ Ok (apply (symbol.re_loop 3 2) (with_term a_range no_terms))
a_loop = refl

power_of_a_word : read names (group (power_of_two ∷ x ∷ [])) ≡ Err wrong_sort
power_of_a_word = refl

power_of_two_arguments : read names (group (power_of_two ∷ range a b ∷ range a b ∷ [])) ≡ Err wrong_count
power_of_two_arguments = refl

-- re.^ and re.loop without indices, with too few or other ones, and (_ x 2)
power_alone : read names (group (Symbol (codes "re.^") ∷ range a b ∷ [])) ≡ Err bad_index
power_alone = refl

loop_of_one_index : read names
    (group (group (Symbol (codes "_") ∷ Symbol (codes "re.loop") ∷ Numeral (codes "3") ∷ []) ∷ range a b ∷ []))
    ≡ Err bad_index
loop_of_one_index = refl

index_too_large : read names
    (group (group (Symbol (codes "_") ∷ Symbol (codes "re.^") ∷ Numeral (codes "65536") ∷ []) ∷ range a b ∷ []))
    ≡ Err numeral_too_large
index_too_large = refl

index_of_a_constant : read names (group (Symbol (codes "_") ∷ x ∷ Numeral (codes "2") ∷ [])) ≡ Err bad_index
index_of_a_constant = refl

-- (_ re.range 2); (_ x) and (_ re.^) are of no shape
index_of_a_symbol : read names (group (Symbol (codes "_") ∷ Symbol (codes "re.range") ∷ Numeral (codes "2") ∷ []))
    ≡ Err bad_index
index_of_a_symbol = refl

no_index : read names (group (Symbol (codes "_") ∷ x ∷ [])) ≡ Err malformed
no_index = refl

no_index_of_a_head : read names (group (group (Symbol (codes "_") ∷ Symbol (codes "re.^") ∷ []) ∷ x ∷ []))
    ≡ Err malformed
no_index_of_a_head = refl

-- (_ char #x61) is a word, and takes no arguments; (_ char #x30000) is no character; where char is declared it is no more
a_character : read names (group (Symbol (codes "_") ∷ Symbol (codes "char") ∷ OtherNumber (codes "#x61") ∷ []))
    ≡ Ok (word (codes "a"))
unfolding hex_value hex_number_from
a_character = refl

arguments_of_a_character : read names
    (group (group (Symbol (codes "_") ∷ Symbol (codes "char") ∷ OtherNumber (codes "#x61") ∷ []) ∷ x ∷ []))
    ≡ Err wrong_count
unfolding hex_value hex_number_from
arguments_of_a_character = refl

no_character : read names (group (Symbol (codes "_") ∷ Symbol (codes "char") ∷ OtherNumber (codes "#x30000") ∷ []))
    ≡ Err bad_index
unfolding hex_value hex_number_from
no_character = refl

a_constant_char : read ((codes "char", a_constant 1 text) ∷ names)
    (group (Symbol (codes "_") ∷ Symbol (codes "char") ∷ OtherNumber (codes "#x61") ∷ [])) ≡ Err bad_index
a_constant_char = refl

char_alone : read names (Symbol (codes "char")) ≡ Err (unknown_symbol (codes "char"))
char_alone = refl

-- a constant |let| is not reached by a bare let
a_constant_let : read ((codes "let", a_constant 1 text) ∷ names) (QuotedSymbol (codes "let")) ≡ Ok (constant 1 text)
a_constant_let = refl

not_reached : read ((codes "let", a_constant 1 text) ∷ names) (Symbol (codes "let")) ≡ Err malformed
not_reached = refl

-- a marked name, a symbol that is left out, a keyword
marked_name : read names (Symbol (codes "m")) ≡ Err unsupported
marked_name = refl

left_out_symbol : read names (group (Symbol (codes "str.replace") ∷ y ∷ [])) ≡ Err unsupported
left_out_symbol = refl

no_keyword : read names (Keyword (codes ":named")) ≡ Err malformed
no_keyword = refl

-- "x""y" is three characters; a byte above 126 is no literal; a backslash that begins no escape
-- stands for itself
doubled_quote : read names (Words (codes "x\"\"y")) ≡ Ok (word (codes "x\"y"))
doubled_quote = refl

no_literal : read names (Words (92 ∷ 128 ∷ [])) ≡ Err bad_literal
no_literal = refl

no_escape : read names (Words (92 ∷ [])) ≡ Ok (word (92 ∷ []))
no_escape = refl

an_escape : read names (Words (codes "\\u{61}")) ≡ Ok (word (codes "a"))
unfolding hex_value hex_number_from
an_escape = refl

-- let is reserved, and printed between bars; so is a name with a space; a quote is doubled within a text
printed_between_bars : name_text (codes "let") ≡ codes "|let|"
printed_between_bars = refl

printed_bare : name_text (codes "str.in_re") ≡ codes "str.in_re"
printed_bare = refl

printed_in_a_text : name_in_text (codes "a \"b") ≡ codes "|a \"\"b|"
printed_in_a_text = refl
