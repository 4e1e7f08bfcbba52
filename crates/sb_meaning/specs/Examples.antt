-- Computed examples of symbols, of truth and of printed values.
use Rattle.std.specs.Prelude.{◌≡◌, pos, negsuc, ◌-ℤ◌, true, false, not, ◌&&◌, [], ◌∷◌, length, codes, refl}
use Rattle.std.specs.Fmt.{digits}
use Rattle.sb_lang.specs.Membership.{in_re, is_word}
use Rattle.sb_lang.specs.Languages.{cut, power, some_up_to, iterate}
use Rattle.sb_meaning.specs.Terms.{Term, Symbol, constant, word, numeral, apply, no_terms, with_term, text, integer, boolean}
use Rattle.sb_meaning.specs.Terms as symbol
use Rattle.sb_meaning.specs.Sorts.{signature_of, symbols, arity_of, is_count, is_of_one}
use Rattle.sb_meaning.specs.Values.{Valuation, Text, Int, Truth}
use Rattle.sb_meaning.specs.Truth.{holds, is_chain, are_pairs, is_less}
use Rattle.sb_meaning.specs.Printed.{printed}

abbrev pub one : Symbol → Term → Term
one s a = apply s (with_term a no_terms)

abbrev pub two : Symbol → Term → Term → Term
two s a b = apply s (with_term a (with_term b no_terms))

abbrev three : Symbol → Term → Term → Term → Term
three s a b c = apply s (with_term a (with_term b (with_term c no_terms)))

-- the String constants x and y, the Int constant n and the Bool constant p
abbrev pub x : Term
x = constant 0 text

abbrev y : Term
y = constant 1 text

abbrev n : Term
n = constant 2 integer

abbrev p : Term
p = constant 3 boolean

abbrev values : Valuation
values = (0, Text (codes "aa")) ∷ (1, Text (codes "bbb")) ∷ (2, Int (negsuc 4)) ∷ (3, Truth true) ∷ []

-- each symbol has a name of its own
how_many_symbols : length symbols ≡ 38
how_many_symbols = refl

names_differ : are_pairs (λ s t. not (is_word (signature_of s).name (signature_of t).name)) symbols ≡ true
names_differ = refl

-- of one argument a conjunction is the argument, and a difference is a negation
takes_one : (is_count (arity_of symbol.core_and) 1 && is_of_one symbol.core_and) ≡ true
takes_one = refl

negates_one : (is_count (arity_of symbol.minus) 1 && not (is_of_one symbol.minus)) ≡ true
negates_one = refl

-- each two neighbours, and each two
neighbours_alone : is_chain is_less (pos 1 ∷ pos 3 ∷ pos 5 ∷ []) ≡ true
neighbours_alone = refl

each_two : are_pairs (λ m n. is_less (n -ℤ m) (pos 3)) (pos 1 ∷ pos 3 ∷ pos 5 ∷ []) ≡ false
each_two = refl

-- (str.in_re x (re.+ (re.range "a" "b")))
some_of_a_b : holds (two symbol.str_in_re x
    (one symbol.re_plus (two symbol.re_range (word (codes "a")) (word (codes "b"))))) values ≡ true
unfolding in_re cut power some_up_to iterate
some_of_a_b = refl

-- (str.in_re y (re.* (str.to_re "a")))
no_b_in_as : holds (two symbol.str_in_re y (one symbol.re_star (one symbol.str_to_re (word (codes "a"))))) values
    ≡ false
unfolding in_re cut power some_up_to iterate
no_b_in_as = refl

-- (not (str.in_re y (re.* (str.to_re "a"))))
complement_is_true : holds
    (one symbol.core_not (two symbol.str_in_re y (one symbol.re_star (one symbol.str_to_re (word (codes "a")))))) values
    ≡ true
unfolding in_re cut power some_up_to iterate
complement_is_true = refl

-- (= (* 2 (str.len x)) (+ (str.len y) 1))
lengths_add_up : holds
    (two symbol.core_equal (two symbol.times (numeral 2) (one symbol.str_len x))
    (two symbol.plus (one symbol.str_len y) (numeral 1))) values ≡ true
lengths_add_up = refl

-- (<= (- 5) n 0), and not (< n (- 5))
chain_of_bounds : holds (three symbol.at_most (one symbol.minus (numeral 5)) n (numeral 0)) values ≡ true
chain_of_bounds = refl

not_below_itself : holds (two symbol.less n (one symbol.minus (numeral 5))) values ≡ false
not_below_itself = refl

-- (=> p p false) leans to the right: (=> p (=> p false))
implication_leans_right : holds (three symbol.core_implies p p (apply symbol.core_false no_terms)) values ≡ false
implication_leans_right = refl

-- (- 7 2 3)
difference_leans_left : holds
    (two symbol.core_equal (three symbol.minus (numeral 7) (numeral 2) (numeral 3)) (numeral 2)) values ≡ true
difference_leans_left = refl

-- (distinct x y x)
not_all_distinct : holds (three symbol.core_distinct x y x) values ≡ false
not_all_distinct = refl

-- (= (str.++ x "b" y) "aabbbb"), (= (str.++ y x) (str.++ x y))
joined_in_order : holds (two symbol.core_equal (three symbol.str_concat x (word (codes "b")) y) (word (codes "aabbbb")))
    values ≡ true
joined_in_order = refl

not_the_other_way : holds (two symbol.core_equal (two symbol.str_concat y x) (two symbol.str_concat x y)) values ≡ false
not_the_other_way = refl

-- (str.in_re (str.++ "a" (str.++ x "")) (re.* (str.to_re "a"))), and a word that is joined in a regular expression
joined_within : holds
    (two symbol.str_in_re (two symbol.str_concat (word (codes "a")) (two symbol.str_concat x (word [])))
    (one symbol.re_star (one symbol.str_to_re (word (codes "a"))))) values ≡ true
unfolding in_re cut power some_up_to iterate
joined_within = refl

in_a_joined_word : holds
    (two symbol.str_in_re x (one symbol.str_to_re (two symbol.str_concat (word (codes "a")) (word (codes "a"))))) values
    ≡ true
unfolding in_re cut power some_up_to iterate
in_a_joined_word = refl

-- (str.contains "abc" "bc"), (str.prefixof "bc" "abc"), (str.suffixof "bc" "abc")
contains_a_part : holds (two symbol.str_contains (word (codes "abc")) (word (codes "bc"))) values ≡ true
contains_a_part = refl

no_prefix : holds (two symbol.str_prefixof (word (codes "bc")) (word (codes "abc"))) values ≡ false
no_prefix = refl

a_suffix : holds (two symbol.str_suffixof (word (codes "bc")) (word (codes "abc"))) values ≡ true
a_suffix = refl

-- (ite p (= x "aa") (= x "b"))
chooses_by_the_condition : holds
    (three symbol.core_ite p (two symbol.core_equal x (word (codes "aa"))) (two symbol.core_equal x (word (codes "b"))))
    values ≡ true
chooses_by_the_condition = refl

prints_a_word : printed (Text (codes "ab")) ≡ 34 ∷ 97 ∷ 98 ∷ 34 ∷ []
prints_a_word = refl

prints_a_negative_number : printed (Int (negsuc 4)) ≡ codes "(- 5)"
unfolding digits
prints_a_negative_number = refl

-- (re.++ (str.to_re "aa") (re.* (re.union (str.to_re "b") (re.range "c" "d")))), of which "aab" is a word
abbrev pub as_and_more : Term
as_and_more = two symbol.re_concat (one symbol.str_to_re (word (codes "aa")))
    (one symbol.re_star
    (two symbol.re_union (one symbol.str_to_re (word (codes "b")))
    (two symbol.re_range (word (codes "c")) (word (codes "d")))))

has_x : holds (two symbol.str_in_re x as_and_more) values ≡ true
unfolding in_re cut power some_up_to iterate
has_x = refl

has_no_y : holds (two symbol.str_in_re y as_and_more) values ≡ false
unfolding in_re cut power some_up_to iterate
has_no_y = refl
