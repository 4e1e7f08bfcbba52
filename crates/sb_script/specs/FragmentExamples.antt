-- Computed examples of what is decided: of what is brought so far, and of the whole fragment.
use Rattle.std.specs.Prelude.{◌≡◌, ℕ, pos, Bool, true, false, List, [], ◌∷◌, map, replicate, codes, Some, refl}
use Rattle.std.specs.List.{list_all, list_any}
use Rattle.sb_meaning.specs.Terms.{Term, boolean, integer, text, constant, word, numeral, apply, no_terms, terms_of}
use Rattle.sb_meaning.specs.Terms as symbol
use Rattle.sb_meaning.specs.Values.{Int, Truth}
use Rattle.sb_meaning.specs.Examples.{one, two, x, as_and_more}
use Rattle.sb_script.specs.Brought.{is_text, is_regex, asked, is_membership, is_structure, a_statement_of, a_check_of, is_brought}
use Rattle.sb_script.specs.Fragment.{fits, are_in_fragment, is_decided}
use Rattle.sb_script.specs.Rules.{repeats_variable, lacks_ground}
use Rattle.sb_script.specs.State.{Assertion, asserted, a_mark, assumed}
use Rattle.sb_script.specs.Models.{is_plain_term, are_defaults, about}
use Rattle.sb_script.specs.Sizes.{size_of}

-- What is brought.

is_over_literals : is_membership (two symbol.str_in_re x as_and_more) ≡ true
is_over_literals = refl

-- a constant within, and a word in place of a constant
no_constant_within : is_regex (two symbol.re_union (one symbol.str_to_re x) (one symbol.str_to_re (word (codes "a"))))
    ≡ false
no_constant_within = refl

no_word_in_front : is_membership (two symbol.str_in_re (word (codes "a")) as_and_more) ≡ false
no_word_in_front = refl

-- an equality with a literal, on either side; with a concatenation of words it is other structure
equal_to_a_literal : is_membership (two symbol.core_equal x (word (codes "a"))) ≡ true
equal_to_a_literal = refl

a_literal_is_equal : is_membership (two symbol.core_equal (word []) x) ≡ true
a_literal_is_equal = refl

-- of two constants, of two literals, of more than two
of_two_constants : is_membership (two symbol.core_equal x x) ≡ false
of_two_constants = refl

of_two_literals : is_membership (two symbol.core_equal (word []) (word [])) ≡ false
of_two_literals = refl

of_three : is_membership (apply symbol.core_equal (terms_of (x ∷ word [] ∷ word [] ∷ []))) ≡ false
of_three = refl

of_a_joined_word : is_membership (two symbol.core_equal x (two symbol.str_concat (word (codes "a")) (word [])))
    ≡ false
of_a_joined_word = refl

what_is_asked : asked (two symbol.core_equal (word (codes "a")) x)
    ≡ Some (0, one symbol.str_to_re (word (codes "a")))
what_is_asked = refl

-- One assertion.

abbrev y : Term
y = constant 1 text

abbrev n : Term
n = constant 2 integer

abbrev p : Term
p = constant 3 boolean

abbrev a : Term
a = word (codes "a")

abbrev all_words : Term
all_words = apply symbol.re_all no_terms

abbrev three : symbol.Symbol → Term → Term → Term → Term
three s t u v = apply s (terms_of (t ∷ u ∷ v ∷ []))

abbrev joined : Term
joined = three symbol.str_concat x a y

-- Regular expressions by each symbol that is brought; a constant within, and arguments too many or none.
abbrev of_a : Term
of_a = one symbol.str_to_re a

abbrev of_y : Term
of_y = one symbol.str_to_re y

-- words: literals, and concatenations of them, however they are nested
abbrev aa : Term
aa = two symbol.str_concat a a

are_words : list_all is_text (a ∷ word [] ∷ aa ∷ two symbol.str_concat aa (two symbol.str_concat a aa) ∷ []) ≡ true
are_words = refl

are_no_words : list_any is_text (x ∷ joined ∷ two symbol.str_concat a (two symbol.str_concat a x) ∷ p ∷ all_words ∷ [])
    ≡ false
are_no_words = refl

abbrev over_words : List Term
over_words =
    one symbol.str_to_re aa ∷ two symbol.re_range aa a ∷ one symbol.re_star (one symbol.str_to_re aa)
    ∷ apply symbol.re_none no_terms ∷ all_words ∷ apply symbol.re_allchar no_terms ∷ two symbol.re_range a a
    ∷ two symbol.re_concat of_a of_a ∷ three symbol.re_union of_a of_a of_a ∷ three symbol.re_inter of_a of_a of_a
    ∷ three symbol.re_diff of_a of_a of_a ∷ one symbol.re_star of_a ∷ one symbol.re_plus of_a ∷ one symbol.re_opt of_a
    ∷ one symbol.re_comp of_a ∷ one (symbol.re_power 2) of_a ∷ one (symbol.re_loop 3 2) of_a ∷ []

each_is_over_words : list_all is_regex over_words ≡ true
each_is_over_words = refl

abbrev not_over_words : List Term
not_over_words =
    one symbol.str_to_re joined ∷ two symbol.re_range a y ∷ two symbol.re_range joined a
    ∷ one symbol.re_comp of_y ∷ one symbol.re_opt of_y ∷ two symbol.re_inter of_a of_y ∷ two symbol.re_diff of_a of_y
    ∷ one symbol.re_none of_a ∷ one symbol.re_all of_a ∷ one symbol.re_allchar of_a ∷ two symbol.re_opt of_a of_a
    ∷ two symbol.re_comp of_a of_a ∷ one (symbol.re_power 2) of_y ∷ two (symbol.re_loop 0 1) of_a of_a
    ∷ apply symbol.re_inter no_terms ∷ apply symbol.re_diff no_terms ∷ []

none_is_over_words : list_any is_regex not_over_words ≡ false
none_is_over_words = refl

-- Membership: each constant once at most, no constant in the regular expression, ground terms too.
of_a_concatenation : fits (two symbol.str_in_re joined all_words) ≡ true
of_a_concatenation = refl

a_constant_twice : fits (two symbol.str_in_re (two symbol.str_concat x x) all_words) ≡ false
a_constant_twice = refl

a_constant_in_the_expression : fits (two symbol.str_in_re x (one symbol.str_to_re y)) ≡ false
a_constant_in_the_expression = refl

of_a_word : fits (two symbol.str_in_re (two symbol.str_concat a a) all_words) ≡ true
of_a_word = refl

-- Boolean structure over memberships, over String terms that are compared, and over Bool constants, whatever stands in
-- the String terms.
abbrev of_x : Term
of_x = two symbol.str_in_re x all_words

abbrev structures : List Term
structures =
    p ∷ of_x ∷ two symbol.core_equal a x ∷ apply symbol.core_true no_terms ∷ apply symbol.core_false no_terms
    ∷ one symbol.core_not of_x ∷ two symbol.core_and p of_x ∷ one symbol.core_or (one symbol.core_not p)
    ∷ three symbol.core_implies p of_x p ∷ two symbol.core_xor p (two symbol.core_equal x a)
    ∷ three symbol.core_ite p of_x (one symbol.core_not of_x) ∷ three symbol.core_equal p of_x p
    ∷ three symbol.core_distinct p of_x p ∷ three symbol.core_equal x a x ∷ two symbol.core_distinct a y
    ∷ two symbol.str_in_re joined all_words ∷ two symbol.str_in_re a all_words ∷ two symbol.core_equal x y
    ∷ three symbol.core_equal x a a ∷ three symbol.core_distinct x a y ∷ two symbol.core_distinct a a
    ∷ one symbol.core_not (two symbol.core_equal joined aa) ∷ two symbol.str_prefixof a x
    ∷ two symbol.str_suffixof x y ∷ one symbol.core_not (two symbol.str_contains joined x) ∷ []

each_is_structure : list_all is_structure structures ≡ true
each_is_structure = refl

-- of a regular expression with a constant, and of regular expressions that are compared; of numbers, and under a
-- symbol; of what is no Bool term
abbrev no_structures : List Term
no_structures =
    two symbol.str_in_re x of_y ∷ two symbol.core_equal all_words all_words ∷ two symbol.core_equal n n
    ∷ three symbol.core_distinct n n n ∷ two symbol.core_and p (two symbol.core_equal n n)
    ∷ two symbol.at_most n n ∷ x ∷ a ∷ joined ∷ all_words ∷ one symbol.core_not x ∷ []

none_is_structure : list_any is_structure no_structures ≡ false
none_is_structure = refl

-- Constants may be joined, in what stands in a proof and in what is checked.
abbrev joined_is_a : Term
joined_is_a = two symbol.core_or p (two symbol.core_equal joined a)

may_be_stated : is_brought (a_statement_of joined_is_a) ≡ true
may_be_stated = refl

may_be_checked : list_all (λ t. is_brought (a_check_of t))
    (joined_is_a ∷ two symbol.str_in_re joined all_words ∷ one symbol.core_not (two symbol.core_equal aa joined) ∷ [])
    ≡ true
may_be_checked = refl

joined_are_decided : list_all is_decided
    (asserted joined_is_a ∷ asserted (two symbol.str_in_re joined all_words)
    ∷ asserted (three symbol.core_equal joined aa (two symbol.str_concat y a)) ∷ []) ≡ true
joined_are_decided = refl

words_are_decided : list_all is_decided
    (asserted (two symbol.core_equal aa a) ∷ asserted (two symbol.str_in_re aa (one symbol.str_to_re aa))
    ∷ asserted (three symbol.core_distinct x aa a) ∷ asserted (three symbol.core_equal x aa y) ∷ []) ≡ true
words_are_decided = refl

others_are_not : list_any is_decided
    (asserted (two symbol.str_in_re (two symbol.str_concat x x) all_words) ∷ asserted (two symbol.core_equal x y)
    ∷ asserted (two symbol.core_equal joined y) ∷ asserted (two symbol.str_in_re x of_y) ∷ a_mark ∷ []) ≡ false
others_are_not = refl

-- Affixes: one side is ground, and in the other each constant stands once at most, whichever is the part; the whole has
-- 1,000 characters at most where the part is not ground.
abbrev long_word : ℕ → Term
long_word n = word (replicate n 97)

affixes_fit : list_all fits
    (two symbol.str_prefixof a x ∷ two symbol.str_prefixof x aa ∷ two symbol.str_suffixof joined a
    ∷ two symbol.str_contains joined a ∷ two symbol.str_contains aa x ∷ two symbol.str_contains a aa
    ∷ two symbol.str_suffixof (word []) joined ∷ two symbol.str_contains (long_word 1000) x
    ∷ two symbol.str_contains x (long_word 1001) ∷ two symbol.str_prefixof a (long_word 1001)
    ∷ one symbol.core_not (two symbol.str_prefixof x (long_word 1000)) ∷ []) ≡ true
affixes_fit = refl

affixes_outside : list_any fits
    (two symbol.str_prefixof x y ∷ two symbol.str_contains y x ∷ two symbol.str_suffixof joined y
    ∷ two symbol.str_prefixof a (two symbol.str_concat x x) ∷ two symbol.str_contains aa (three symbol.str_concat x a x)
    ∷ two symbol.str_contains (long_word 1001) x ∷ two symbol.str_prefixof x (long_word 1001)
    ∷ two symbol.str_suffixof x (long_word 1001) ∷ []) ≡ false
affixes_outside = refl

affixes_that_repeat : map repeats_variable
    (two symbol.str_prefixof a (two symbol.str_concat x x) ∷ two symbol.str_contains x y ∷ []) ≡ true ∷ false ∷ []
affixes_that_repeat = refl

affixes_without_ground : map lacks_ground
    (two symbol.str_prefixof a (two symbol.str_concat x x) ∷ two symbol.str_contains x y ∷ []) ≡ false ∷ true ∷ []
affixes_without_ground = refl

-- Sizes: a node of sort RegLan counts one, and a character of a word one; String terms are words and no nodes.
sizes : map size_of
    (one symbol.str_to_re (word (codes "ab")) ∷ two symbol.re_range a a ∷ one symbol.re_star (one symbol.str_to_re
    (two symbol.str_concat a a)) ∷ []) ≡ 3 ∷ 3 ∷ 4 ∷ []
sizes = refl

sizes_of_symbols : map size_of
    (all_words ∷ one symbol.re_comp of_a ∷ two symbol.re_diff of_a of_a
    ∷ one symbol.re_opt (apply symbol.re_allchar no_terms) ∷ []) ≡ 1 ∷ 3 ∷ 5 ∷ 2 ∷ []
sizes_of_symbols = refl

-- String equality: in each pair one side is ground, and in the other each constant stands once at most.
to_a_word : fits (two symbol.core_equal a joined) ≡ true
to_a_word = refl

of_two_words : fits (two symbol.core_equal (two symbol.str_concat a a) a) ≡ true
of_two_words = refl

of_constants : fits (two symbol.core_equal x y) ≡ false
of_constants = refl

twice_in_an_equality : fits (two symbol.core_equal (two symbol.str_concat x x) a) ≡ false
twice_in_an_equality = refl

-- neighbours in a chain, and each two of those that differ
of_neighbours : fits (three symbol.core_equal x a y) ≡ true
of_neighbours = refl

of_each_two : fits (three symbol.core_distinct x a y) ≡ false
of_each_two = refl

-- words that are joined are a ground side, and two sides with a constant each have none
joined_words_are_ground : fits (two symbol.core_equal joined (three symbol.str_concat a (word []) a)) ≡ true
joined_words_are_ground = refl

no_side_is_ground : fits (two symbol.core_equal joined (two symbol.str_concat a y)) ≡ false
no_side_is_ground = refl

-- The two rules by themselves.

-- in a membership, in a pair on either side, in another pair of a chain, and under symbols; not in two memberships, and
-- not on two sides
abbrev xx : Term
xx = three symbol.str_concat x a x

repeated : list_all repeats_variable
    (two symbol.str_in_re xx all_words ∷ two symbol.core_equal xx a ∷ two symbol.core_distinct a xx
    ∷ three symbol.core_equal x a xx ∷ one symbol.core_not (two symbol.core_or p (two symbol.core_equal xx y))
    ∷ two symbol.str_in_re (two symbol.str_concat joined (two symbol.str_concat a y)) all_words ∷ []) ≡ true
repeated = refl

not_repeated : list_any repeats_variable
    (p ∷ two symbol.str_in_re joined all_words ∷ two symbol.core_equal x x
    ∷ two symbol.core_and (two symbol.str_in_re joined all_words) (two symbol.str_in_re joined all_words)
    ∷ two symbol.at_most (one symbol.str_len xx) n ∷ two symbol.core_equal n n ∷ []) ≡ false
not_repeated = refl

not_ground : list_all lacks_ground
    (two symbol.core_equal x y ∷ two symbol.core_equal xx y ∷ three symbol.core_distinct x a y
    ∷ three symbol.core_equal a x y ∷ two symbol.str_in_re a of_y ∷ one symbol.core_not (two symbol.core_equal x joined)
    ∷ []) ≡ true
not_ground = refl

ground : list_any lacks_ground
    (p ∷ two symbol.core_equal xx aa ∷ three symbol.core_equal x a y ∷ three symbol.core_distinct x a aa
    ∷ two symbol.str_in_re joined all_words ∷ two symbol.core_equal n n ∷ two symbol.core_equal p (two symbol.core_equal
    aa y) ∷ []) ≡ false
ground = refl

-- Boolean structure.
structure : fits (two symbol.core_and (one symbol.core_not p) (two symbol.core_equal p (two symbol.core_equal x a)))
    ≡ true
structure = refl

a_part_that_does_not_fit : fits (two symbol.core_or p (two symbol.core_equal x y)) ≡ false
a_part_that_does_not_fit = refl

-- Linear arithmetic: at most one factor that is not ground.
abbrev length_of_joined : Term
length_of_joined = one symbol.str_len joined

linear : fits (two symbol.core_equal (two symbol.times (numeral 2) length_of_joined) (two symbol.plus n (numeral 1)))
    ≡ true
linear = refl

no_product : fits (two symbol.at_most (two symbol.times n n) (numeral 1)) ≡ false
no_product = refl

-- an n-ary product is collected as a whole, a product in it by itself
abbrev large : Term
large = numeral 2147483647

a_product_as_a_whole : fits (two symbol.at_most (apply symbol.times (terms_of (large ∷ large ∷ numeral 0 ∷ n ∷
    []))) n) ≡ true
a_product_as_a_whole = refl

a_part_too_large : fits (two symbol.at_most (two symbol.times (two symbol.times large large) (numeral 0)) n) ≡ false
a_part_too_large = refl

-- the difference is within the limits too
a_difference_too_large : fits (two symbol.at_most (two symbol.plus large n) (one symbol.minus (numeral 1))) ≡ false
a_difference_too_large = refl

-- All assertions.

abbrev asserted_all : List Term → List Assertion
asserted_all [] = []
asserted_all (t ∷ ts) = asserted t ∷ asserted_all ts

abbrev inside : List Term → Bool
inside ts = are_in_fragment (asserted_all ts)

abbrev at_least : Term → Term → Term
at_least s t = two symbol.at_least s t

abbrev at_most : Term → Term → Term
at_most s t = two symbol.at_most s t

nothing_asserted : inside [] ≡ true
nothing_asserted = refl

a_mark_leaves_it : are_in_fragment (asserted p ∷ a_mark ∷ []) ≡ false
a_mark_leaves_it = refl

-- Bounds: (>= n 0) alone; with (<= n 4096); with (<= n 4097); (>= n 5) and (<= n 4)
half_bounded : inside (at_least n (numeral 0) ∷ []) ≡ false
half_bounded = refl

bounded : inside (at_least n (numeral 0) ∷ at_most n (numeral 4096) ∷ []) ≡ true
bounded = refl

too_wide : inside (at_least n (numeral 0) ∷ at_most n (numeral 4097) ∷ []) ≡ false
too_wide = refl

crossed : inside (at_least n (numeral 5) ∷ at_most n (numeral 4) ∷ []) ≡ true
crossed = refl

-- the best bounds count, wherever they stand: (and (< n 5) (= n 4)), (> n (- 3)) with (< n 4000000)
within_a_conjunction : inside (two symbol.core_and (two symbol.less n (numeral 5)) (two symbol.core_equal n
    (numeral 4)) ∷ []) ≡ true
within_a_conjunction = refl

not_within_a_disjunction : inside
    (two symbol.core_or (two symbol.core_equal n (numeral 4)) (two symbol.core_equal n (numeral 5)) ∷ []) ≡ false
not_within_a_disjunction = refl

too_far : inside (two symbol.greater n (one symbol.minus (numeral 3)) ∷ two symbol.less n (numeral 4000000) ∷ [])
    ≡ false
too_far = refl

better_bounds :
    inside (two symbol.less n (numeral 4000000) ∷ two symbol.less n (numeral 40) ∷ three symbol.at_most
    (one symbol.minus (numeral 3)) n
    (numeral 5000) ∷ []) ≡ true
better_bounds = refl

-- a strict bound is the next number inside: (< n 4097) bounds by 4096
a_strict_bound : inside (at_least n (numeral 0) ∷ two symbol.less n (numeral 4097) ∷ []) ≡ true
a_strict_bound = refl

-- a length has the lower bound 0, and each constant in a concatenation has a length of its own
a_length : inside (at_most (one symbol.str_len x) (numeral 5) ∷ []) ≡ true
a_length = refl

lengths_of_parts : inside (at_most length_of_joined (numeral 5) ∷ []) ≡ false
lengths_of_parts = refl

lengths_of_bounded_parts : inside
    (at_most length_of_joined (numeral 5) ∷ at_most (one symbol.str_len x) (numeral 5) ∷ at_most (one symbol.str_len y)
    (numeral 5) ∷ []) ≡ true
lengths_of_bounded_parts = refl

-- a variable that collecting takes away occurs all the same: (= (- n n) 0)
taken_away : inside (two symbol.core_equal (two symbol.minus n n) (numeral 0) ∷ []) ≡ false
taken_away = refl

-- Plain scripts.

plain_membership : is_plain_term (one symbol.core_not (two symbol.str_in_re x all_words)) ≡ true
plain_membership = refl

negated_twice : is_plain_term (one symbol.core_not (one symbol.core_not (two symbol.str_in_re x all_words))) ≡ false
negated_twice = refl

of_words_is_not_plain : is_plain_term (two symbol.str_in_re a all_words) ≡ false
of_words_is_not_plain = refl

-- negated ones count among the memberships of a constant
memberships_of_x : about 0
    (two symbol.str_in_re y all_words ∷ one symbol.core_not (two symbol.str_in_re x all_words) ∷ []) ≡
    one symbol.core_not (two symbol.str_in_re x all_words) ∷ []
memberships_of_x = refl

-- Values by default: n occurs nowhere, and p in an assumption.
by_default : are_defaults
    (record { name = codes "n"; serial = 2; sort = integer } ∷
    record { name = codes "p"; serial = 3; sort = boolean } ∷ [])
    (assumed (3, true) ∷ []) ((2, Int (pos 0)) ∷ (3, Truth true) ∷ []) ≡ true
by_default = refl

not_by_default : are_defaults (record { name = codes "n"; serial = 2; sort = integer } ∷ []) (p ∷ []) ((
  2,
  Int
      (pos 1),
) ∷ [])
    ≡ false
not_by_default = refl
