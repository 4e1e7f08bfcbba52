-- Computed examples of translations: each kind of term once.
use Rattle.std.specs.Prelude.{◌≡◌, ℕ, pos, negsuc, true, false, List, [], ◌∷◌, replicate, codes, Option, Some, None, refl}
use Rattle.sb_lit.specs.declared.clause.Lit.{Lit}
use Rattle.sb_lang.specs.Regex.{Regex, eps, star, set, cat, alt, no_more, more}
use Rattle.sb_lang.specs.Constructors.{anything}
use Rattle.sb_lang.specs.Order.{codes as member_codes}
use Rattle.sb_lang.specs.Affixes.{beginning_with, ending_with, containing, ends_of, prefixes, suffixes, factors}
use Rattle.sb_meaning.specs.Terms.{Term, boolean, integer, text, constant, word, numeral, apply, terms_of}
use Rattle.sb_meaning.specs.Terms as symbol
use Rattle.sb_rulebook.specs.Atoms.{Atom, bool_atom, in_atom, le_atom, sum_atom, and_atom, iff_atom}
use Rattle.sb_rulebook.specs.Translation.{translation}
use Rattle.sb_rulebook.specs.ProofExamples.{computing}
use Rattle.sb_script.specs.Pieces.{constant_piece, word_piece}
use Rattle.sb_script.specs.Sums.{int_constant, length_of}

abbrev pub plus : ℕ → Lit
plus n = record { atom = n; positive = true }

abbrev pub minus : ℕ → Lit
minus n = record { atom = n; positive = false }

abbrev pub of : symbol.Symbol → List Term → Term
of s ts = apply s (terms_of ts)

-- Bool terms.

abbrev p : Term
p = constant 0 boolean

abbrev q : Term
q = constant 1 boolean

abbrev r : Term
r = constant 2 boolean

abbrev bool_atoms : List Atom
bool_atoms =
    -- 0: true. 1 to 3: p, q, r
    and_atom [] ∷ bool_atom 0 ∷ bool_atom 1 ∷ bool_atom 2
    -- 4: p and q. 5: neither. 6: p without q. 7: p and q are the same
    ∷ and_atom (plus 1 ∷ plus 2 ∷ []) ∷ and_atom (minus 1 ∷ minus 2 ∷ []) ∷ and_atom (plus 1 ∷ minus 2 ∷ []) ∷ iff_atom
    (plus 1) (plus 2)
    -- 8: q without r. 9: p, and 8. 10: r, and p and q are not the same, or neither
    ∷ and_atom (plus 2 ∷ minus 3 ∷ []) ∷ and_atom (plus 1 ∷ plus 8 ∷ []) ∷ iff_atom (plus 3) (minus 7)
    -- 11: q and r are the same. 12: all are. 13: p and r are. 14: no two are
    ∷ iff_atom (plus 2) (plus 3) ∷ and_atom (plus 7 ∷ plus 11 ∷ []) ∷ iff_atom (plus 1) (plus 3) ∷ and_atom
    (minus 7 ∷ minus 11 ∷ minus 13 ∷ [])
    -- 15: neither p nor r. 16: not 6, and not 15
    ∷ and_atom (minus 1 ∷ minus 3 ∷ []) ∷ and_atom (minus 6 ∷ minus 15 ∷ []) ∷ []

abbrev of_bool : Term → Option Lit
of_bool t = translation bool_atoms t

truth : of_bool (of symbol.core_true []) ≡ Some (plus 0)
truth = refl

falsehood : of_bool (of symbol.core_false []) ≡ Some (minus 0)
falsehood = refl

bool_constant : of_bool q ≡ Some (plus 2)
bool_constant = refl

negation : of_bool (of symbol.core_not (q ∷ [])) ≡ Some (minus 2)
negation = refl

conjunction : of_bool (of symbol.core_and (q ∷ p ∷ q ∷ [])) ≡ Some (plus 4)
conjunction = refl

conjunction_of_one : of_bool (of symbol.core_and (p ∷ p ∷ [])) ≡ Some (plus 1)
conjunction_of_one = refl

disjunction : of_bool (of symbol.core_or (p ∷ q ∷ [])) ≡ Some (minus 5)
disjunction = refl

implication : of_bool (of symbol.core_implies (p ∷ q ∷ [])) ≡ Some (minus 6)
implication = refl

implication_to_the_right : of_bool (of symbol.core_implies (p ∷ q ∷ r ∷ [])) ≡ Some (minus 9)
implication_to_the_right = refl

exclusive_or : of_bool (of symbol.core_xor (q ∷ p ∷ [])) ≡ Some (minus 7)
exclusive_or = refl

exclusive_or_to_the_left : of_bool (of symbol.core_xor (p ∷ q ∷ r ∷ [])) ≡ Some (minus 10)
exclusive_or_to_the_left = refl

equality : of_bool (of symbol.core_equal (p ∷ q ∷ [])) ≡ Some (plus 7)
equality = refl

equality_of_neighbours : of_bool (of symbol.core_equal (p ∷ q ∷ r ∷ [])) ≡ Some (plus 12)
equality_of_neighbours = refl

all_distinct : of_bool (of symbol.core_distinct (p ∷ q ∷ r ∷ [])) ≡ Some (plus 14)
all_distinct = refl

choice : of_bool (of symbol.core_ite (p ∷ q ∷ r ∷ [])) ≡ Some (plus 16)
choice = refl

-- no atom says that p and r are both true
a_missing_atom : of_bool (of symbol.core_and (p ∷ r ∷ [])) ≡ None
a_missing_atom = refl

-- String terms.

abbrev x : Term
x = constant 0 text

abbrev y : Term
y = constant 1 text

abbrev a : Regex
a = set ((0x61, 0x61) ∷ [])

abbrev b : Regex
b = set ((0x62, 0x62) ∷ [])

abbrev string_atoms : List Atom
string_atoms =
    in_atom (constant_piece 0 ∷ word_piece (codes "ab") ∷ constant_piece 1 ∷ []) (star a)
    ∷ in_atom (constant_piece 0 ∷ []) (cat a b)
    ∷ in_atom (word_piece (codes "a") ∷ []) b
    ∷ in_atom (constant_piece 0 ∷ []) a
    ∷ in_atom (constant_piece 0 ∷ []) b
    ∷ and_atom (minus 2 ∷ minus 3 ∷ minus 4 ∷ []) ∷ []

abbrev of_string : Term → Option Lit
of_string t = translation string_atoms t

abbrev some_a : Term
some_a = of symbol.re_star (of symbol.str_to_re (word (codes "a") ∷ []) ∷ [])

-- concatenations are flat, empty words go, and words become one
membership : of_string
    (of symbol.str_in_re
    (of symbol.str_concat (x ∷ word [] ∷ word (codes "a") ∷ of symbol.str_concat (word (codes "b") ∷ y ∷ []) ∷ []) ∷
    some_a ∷ [])) ≡ Some (plus 0)
unfolding computing
membership = refl

-- a constant stands once at most, and not in the regular expression
a_constant_twice : of_string (of symbol.str_in_re (of symbol.str_concat (x ∷ x ∷ []) ∷ some_a ∷ [])) ≡ None
unfolding computing
a_constant_twice = refl

a_constant_in_a_regex : of_string (of symbol.str_in_re (x ∷ of symbol.str_to_re (y ∷ []) ∷ [])) ≡ None
unfolding computing
a_constant_in_a_regex = refl

word_on_the_right : of_string (of symbol.core_equal (x ∷ word (codes "ab") ∷ [])) ≡ Some (plus 1)
unfolding computing
word_on_the_right = refl

word_on_the_left : of_string (of symbol.core_equal (word (codes "ab") ∷ x ∷ [])) ≡ Some (plus 1)
unfolding computing
word_on_the_left = refl

-- of two words the second is the regex
two_words : of_string (of symbol.core_equal (word (codes "a") ∷ word (codes "b") ∷ [])) ≡ Some (plus 2)
unfolding computing
two_words = refl

no_word : of_string (of symbol.core_equal (x ∷ y ∷ [])) ≡ None
unfolding computing
no_word = refl

-- Joined words are one piece, and of the empty word there is none; a concatenation is equal to a joined word, on either
-- side, and to no other concatenation.

abbrev joined : List Term → Term
joined ts = of symbol.str_concat ts

abbrev joined_atoms : List Atom
joined_atoms =
    in_atom (word_piece (codes "ab") ∷ []) (star a)
    ∷ in_atom [] (star a)
    ∷ in_atom (constant_piece 0 ∷ word_piece (codes "b") ∷ []) (cat a b)
    ∷ in_atom (word_piece (codes "b") ∷ constant_piece 1 ∷ []) (cat a b) ∷ and_atom (plus 2 ∷ plus 3 ∷ []) ∷ []

abbrev of_joined : Term → Option Lit
of_joined t = translation joined_atoms t

abbrev a_and_b : Term
a_and_b = joined (word (codes "a") ∷ word [] ∷ word (codes "b") ∷ [])

joined_words : of_joined (of symbol.str_in_re (a_and_b ∷ some_a ∷ [])) ≡ Some (plus 0)
unfolding computing
joined_words = refl

the_empty_word : of_joined (of symbol.str_in_re (joined (word [] ∷ joined (word [] ∷ word [] ∷ []) ∷ []) ∷ some_a ∷ []))
    ≡ Some (plus 1)
unfolding computing
the_empty_word = refl

joined_on_the_left : of_joined (of symbol.core_equal (joined (x ∷ word (codes "b") ∷ []) ∷ a_and_b ∷ []))
    ≡ Some (plus 2)
unfolding computing
joined_on_the_left = refl

joined_on_the_right : of_joined
    (of symbol.core_not (of symbol.core_equal (a_and_b ∷ joined (x ∷ joined (word (codes "b") ∷ word [] ∷ []) ∷ []) ∷
    []) ∷ [])) ≡ Some (minus 2)
unfolding computing
joined_on_the_right = refl

joined_in_a_chain : of_joined
    (of symbol.core_equal
    (joined (x ∷ word (codes "b") ∷ []) ∷ word (codes "ab") ∷ joined (word (codes "b") ∷ y ∷ []) ∷ []))
    ≡ Some (plus 4)
unfolding computing
joined_in_a_chain = refl

two_concatenations : of_joined
    (of symbol.core_equal (joined (x ∷ word (codes "b") ∷ []) ∷ joined (word (codes "b") ∷ y ∷ []) ∷ [])) ≡ None
unfolding computing
two_concatenations = refl

-- words are joined in a regular expression too
joined_in_a_regex : of_string
    (of symbol.str_in_re (x ∷ of symbol.str_to_re (joined (word (codes "a") ∷ word (codes "b") ∷ []) ∷ []) ∷ []))
    ≡ Some (plus 1)
unfolding computing
joined_in_a_regex = refl

distinct_words : of_string (of symbol.core_distinct (x ∷ word (codes "a") ∷ word (codes "b") ∷ [])) ≡ Some (plus 5)
unfolding computing
distinct_words = refl

-- Affixes: where the part is a word, the whole is in the regex of the words that hold it so; else the part is in the
-- regex of such parts of the whole, which is a word of 1,000 characters at most.

affix_regexes : Unit {0}
unfolding computing beginning_with ending_with containing ends_of prefixes suffixes factors member_codes
affix_regexes = tt

abbrev affix_atoms : List Atom
affix_atoms =
    -- 0: x with a c behind it begins with ab. 1: x ends with ab. 2: ab stands in x
    in_atom (constant_piece 0 ∷ word_piece (codes "c") ∷ []) (cat a (cat b anything))
    ∷ in_atom (constant_piece 0 ∷ []) (cat anything (cat a b))
    ∷ in_atom (constant_piece 0 ∷ []) (cat anything (cat a (cat b anything)))
    -- 3: x is a prefix of ab. 4: a suffix. 5: a factor
    ∷ in_atom (constant_piece 0 ∷ []) (alt (more eps (more (cat a (alt (more eps (more b no_more)))) no_more)))
    ∷ in_atom (constant_piece 0 ∷ []) (alt (more eps (more b (more (cat a b) no_more))))
    ∷ in_atom (constant_piece 0 ∷ [])
    (alt (more eps (more b (more (cat a (alt (more eps (more b no_more)))) no_more))))
    -- 6: ab begins with a. 7: it ends with a. 8: each word begins with the empty one
    ∷ in_atom (word_piece (codes "ab") ∷ []) (cat a anything)
    ∷ in_atom (word_piece (codes "ab") ∷ []) (cat anything a)
    ∷ in_atom (constant_piece 0 ∷ []) anything ∷ []

abbrev of_affix : Term → Option Lit
of_affix t = translation affix_atoms t

abbrev ab_word : Term
ab_word = word (codes "ab")

prefix_of_a_concatenation : of_affix (of symbol.str_prefixof (a_and_b ∷ joined (x ∷ word (codes "c") ∷ []) ∷ []))
    ≡ Some (plus 0)
unfolding affix_regexes
prefix_of_a_concatenation = refl

suffix_of_a_constant : of_affix (of symbol.str_suffixof (ab_word ∷ x ∷ [])) ≡ Some (plus 1)
unfolding affix_regexes
suffix_of_a_constant = refl

-- the whole comes first
word_in_a_constant : of_affix (of symbol.str_contains (x ∷ ab_word ∷ [])) ≡ Some (plus 2)
unfolding affix_regexes
word_in_a_constant = refl

prefix_of_a_word : of_affix (of symbol.core_not (of symbol.str_prefixof (x ∷ ab_word ∷ []) ∷ [])) ≡ Some (minus 3)
unfolding affix_regexes
prefix_of_a_word = refl

suffix_of_a_word : of_affix (of symbol.str_suffixof (x ∷ a_and_b ∷ [])) ≡ Some (plus 4)
unfolding affix_regexes
suffix_of_a_word = refl

constant_in_a_word : of_affix (of symbol.str_contains (ab_word ∷ x ∷ [])) ≡ Some (plus 5)
unfolding affix_regexes
constant_in_a_word = refl

-- of two words the part is the regex
prefix_of_two_words : of_affix (of symbol.str_prefixof (word (codes "a") ∷ ab_word ∷ [])) ≡ Some (plus 6)
unfolding affix_regexes
prefix_of_two_words = refl

suffix_of_two_words : of_affix (of symbol.str_suffixof (word (codes "a") ∷ ab_word ∷ [])) ≡ Some (plus 7)
unfolding affix_regexes
suffix_of_two_words = refl

the_empty_prefix : of_affix (of symbol.str_prefixof (word [] ∷ x ∷ [])) ≡ Some (plus 8)
unfolding affix_regexes
the_empty_prefix = refl

-- over no table
affix_without_a_word : (atoms : List Atom) → translation atoms (of symbol.str_contains (x ∷ y ∷ [])) ≡ None
affix_without_a_word atoms = refl

a_constant_twice_in_a_whole : (atoms : List Atom)
    → translation atoms (of symbol.str_suffixof (ab_word ∷ joined (x ∷ x ∷ []) ∷ [])) ≡ None
a_constant_twice_in_a_whole atoms = refl

too_long_a_whole : (atoms : List Atom)
    → translation atoms (of symbol.str_prefixof (x ∷ word (replicate 1001 97) ∷ [])) ≡ None
too_long_a_whole atoms = refl

-- Int terms.

abbrev n : Term
n = constant 2 integer

abbrev m : Term
m = constant 3 integer

abbrev int_atoms : List Atom
int_atoms =
    -- 0: true. 1: n is at most 5. 2: at most 4. 3: n is 5
    and_atom [] ∷ le_atom (int_constant 2) (pos 5) ∷ le_atom (int_constant 2) (pos 4) ∷ and_atom (plus 1 ∷ minus 2 ∷ [])
    -- 4: n + m is at most 5. 5: 2 n is. 6: twice the length of x is at most 4. 7: n - m is at most -1
    ∷ sum_atom (pos 5) ((pos 1, int_constant 2) ∷ (pos 1, int_constant 3) ∷ []) ∷ sum_atom (pos 5)
    ((pos 2, int_constant 2) ∷ [])
    ∷ sum_atom (pos 4) ((pos 2, length_of 0) ∷ []) ∷ sum_atom (negsuc 0)
    ((pos 1, int_constant 2) ∷ (negsuc 0, int_constant 3) ∷ []) ∷ []

abbrev of_int : Term → Option Lit
of_int t = translation int_atoms t

at_most : of_int (of symbol.at_most (n ∷ numeral 5 ∷ [])) ≡ Some (plus 1)
at_most = refl

less : of_int (of symbol.less (n ∷ numeral 5 ∷ [])) ≡ Some (plus 2)
less = refl

at_least : of_int (of symbol.at_least (n ∷ numeral 5 ∷ [])) ≡ Some (minus 2)
at_least = refl

greater : of_int (of symbol.greater (n ∷ numeral 5 ∷ [])) ≡ Some (minus 1)
greater = refl

number_equality : of_int (of symbol.core_equal (n ∷ numeral 5 ∷ [])) ≡ Some (plus 3)
number_equality = refl

numbers_distinct : of_int (of symbol.core_distinct (numeral 5 ∷ n ∷ [])) ≡ Some (minus 3)
numbers_distinct = refl

-- 5 <= n <= 5
chain : of_int (of symbol.at_most (numeral 5 ∷ n ∷ numeral 5 ∷ [])) ≡ Some (plus 3)
chain = refl

sum_of_two : of_int (of symbol.at_most (of symbol.plus (m ∷ n ∷ []) ∷ numeral 5 ∷ [])) ≡ Some (plus 4)
sum_of_two = refl

product : of_int (of symbol.at_most (of symbol.times (numeral 2 ∷ n ∷ []) ∷ numeral 5 ∷ [])) ≡ Some (plus 5)
product = refl

difference : of_int (of symbol.less (of symbol.minus (n ∷ m ∷ []) ∷ numeral 0 ∷ [])) ≡ Some (plus 7)
difference = refl

-- a factor -1 alone: 5 - n is at most 0
negative_factor : of_int (of symbol.at_most (of symbol.minus (numeral 5 ∷ n ∷ []) ∷ numeral 0 ∷ [])) ≡ Some (minus 2)
negative_factor = refl

length : of_int (of symbol.at_most
    (of symbol.str_len (of symbol.str_concat (x ∷ word (codes "ab") ∷ x ∷ []) ∷ []) ∷ numeral 6 ∷ [])) ≡ Some (plus 6)
length = refl

no_variable : of_int (of symbol.at_most (numeral 1 ∷ numeral 2 ∷ [])) ≡ Some (plus 0)
no_variable = refl

no_variable_left : of_int (of symbol.less (of symbol.minus (n ∷ n ∷ []) ∷ numeral 0 ∷ [])) ≡ Some (minus 0)
no_variable_left = refl

-- a product is collected as a whole, and its parts before it
product_of_constants : of_int (of symbol.at_most (of symbol.times (n ∷ m ∷ []) ∷ numeral 5 ∷ [])) ≡ None
product_of_constants = refl

large_product : of_int
    (of symbol.at_most
    (of symbol.times (numeral 2147483647 ∷ numeral 2147483647 ∷ numeral 0 ∷ n ∷ []) ∷ numeral 0 ∷ [])) ≡ Some (plus 0)
large_product = refl

large_part : of_int (of symbol.at_most
    (of symbol.times (of symbol.times (numeral 2147483647 ∷ numeral 2147483647 ∷ []) ∷ numeral 0 ∷ []) ∷ numeral 0 ∷
    [])) ≡ None
large_part = refl
