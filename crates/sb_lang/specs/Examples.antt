-- Computed examples: each holds by computation, so a definition that means something else is refused here.
use Rattle.std.specs.Prelude.{◌≡◌, true, false, [], ◌∷◌, refl}
use Rattle.std.specs.declared.cmp.Ordering.TheVariants.{Less, Greater}
use Rattle.sb_class.specs.Ranges.{in_range, in_ranges, rises_from}
use Rattle.sb_lang.specs.Languages.{cut, power, some_up_to, iterate, repeat}
use Rattle.sb_lang.specs.RegLan.{RegLan, re_none, re_all, re_allchar, re_word, re_concat, re_union, re_inter, re_diff, re_star, re_plus, re_opt, re_comp, re_range, re_power, re_loop}
use Rattle.sb_lang.specs.Membership.{in_re}
use Rattle.sb_lang.specs.Regex.{Regex, none, eps, set, cat, alt, and, neg, star, rep, path, no_more, more, regexes, parts}
use Rattle.sb_lang.specs.Order.{range_code, code, codes, regex_cmp}
use Rattle.sb_lang.specs.RangeSets.{with_range, union, overlap, within_range, inter}
use Rattle.sb_lang.specs.Constructors.{any_character, mkset, mkcat, alternatives, conjuncts, ranges_of, is_set, union_of, inter_of, join_sets, meet_of, meet_sets, with_regex, sorted, alt_of, and_of, mkalt, mkand, mknot, mkstar, mkrep, mkpath}
use Rattle.sb_lang.specs.Normal.{word_regex, range_regex, normal}
use Rattle.sb_lang.specs.Derivative.{nullable, nd, nd_along}
use Rattle.sb_lang.specs.Language.{language}
use Rattle.sb_lang.specs.NormalForm.{is_normal, all_normal}

-- What the examples compute by: a proof that unfolds one of these unfolds all that its line names.

membership : Unit {0}
unfolding in_re iterate repeat some_up_to power cut
membership = tt

order : Unit {0}
unfolding code codes range_code
order = tt

set_operations : Unit {0}
unfolding union with_range inter within_range overlap
set_operations = tt

constructors : Unit {0}
unfolding mkset mkcat mkalt mkand mknot mkstar mkrep mkpath alternatives conjuncts parts regexes join_sets meet_sets
    meet_of ranges_of is_set union_of inter_of sorted with_regex alt_of and_of order set_operations
constructors = tt

derivative : Unit {0}
unfolding nd nd_along nullable in_ranges in_range constructors
derivative = tt

regex_language : Unit {0}
unfolding language membership derivative
regex_language = tt

normal_regex : Unit {0}
unfolding normal word_regex range_regex constructors
normal_regex = tt

normal_form : Unit {0}
unfolding is_normal all_normal rises_from constructors
normal_form = tt

-- the characters a, b and c
abbrev a : Regex
a = set ((0x61, 0x61) ∷ [])

abbrev b : Regex
b = set ((0x62, 0x62) ∷ [])

abbrev c : Regex
c = set ((0x63, 0x63) ∷ [])

-- The words of a RegLan term.

abbrev ab : RegLan
ab = re_word (0x61 ∷ 0x62 ∷ [])

word_has_itself : in_re ab (0x61 ∷ 0x62 ∷ []) ≡ true
unfolding membership
word_has_itself = refl

word_has_no_more : in_re ab (0x61 ∷ 0x62 ∷ 0x62 ∷ []) ≡ false
unfolding membership
word_has_no_more = refl

star_has_two : in_re (re_star ab) (0x61 ∷ 0x62 ∷ 0x61 ∷ 0x62 ∷ []) ≡ true
unfolding membership
star_has_two = refl

star_has_none : in_re (re_star ab) [] ≡ true
unfolding membership
star_has_none = refl

star_has_no_half : in_re (re_star ab) (0x61 ∷ 0x62 ∷ 0x61 ∷ []) ≡ false
unfolding membership
star_has_no_half = refl

plus_has_no_empty_word : in_re (re_plus ab) [] ≡ false
unfolding membership
plus_has_no_empty_word = refl

option_has_empty_word : in_re (re_opt ab) [] ≡ true
unfolding membership
option_has_empty_word = refl

loop_has_two : in_re (re_loop re_allchar 1 2) (7 ∷ 8 ∷ []) ≡ true
unfolding membership
loop_has_two = refl

loop_has_no_three : in_re (re_loop re_allchar 1 2) (7 ∷ 8 ∷ 9 ∷ []) ≡ false
unfolding membership
loop_has_no_three = refl

loop_out_of_order_has_nothing : in_re (re_loop re_all 3 2) (7 ∷ 8 ∷ []) ≡ false
unfolding membership
loop_out_of_order_has_nothing = refl

power_zero_has_empty_word : in_re (re_power re_none 0) [] ≡ true
unfolding membership
power_zero_has_empty_word = refl

power_two : in_re (re_power ab 2) (0x61 ∷ 0x62 ∷ 0x61 ∷ 0x62 ∷ []) ≡ true
unfolding membership
power_two = refl

range_has_its_end : in_re (re_range (0x61 ∷ []) (0x7a ∷ [])) (0x7a ∷ []) ≡ true
unfolding membership
range_has_its_end = refl

range_of_long_words_has_nothing : in_re (re_range (0x61 ∷ 0x61 ∷ []) (0x7a ∷ [])) (0x61 ∷ []) ≡ false
unfolding membership
range_of_long_words_has_nothing = refl

range_out_of_order_has_nothing : in_re (re_range (0x7a ∷ []) (0x61 ∷ [])) (0x70 ∷ []) ≡ false
unfolding membership
range_out_of_order_has_nothing = refl

difference : in_re (re_diff (re_star re_allchar) ab) (0x61 ∷ 0x62 ∷ []) ≡ false
unfolding membership
difference = refl

complement : in_re (re_comp (re_union ab re_none)) (0x61 ∷ []) ≡ true
unfolding membership
complement = refl

both : in_re (re_inter (re_concat re_allchar re_all) ab) (0x61 ∷ 0x62 ∷ []) ≡ true
unfolding membership
both = refl

-- The order.

star_before_path : regex_cmp (star none) (path none none) ≡ Less
unfolding order
star_before_path = refl

first_part_of_path_first : regex_cmp (path a c) (path b a) ≡ Less
unfolding order
first_part_of_path_first = refl

shorter_set_first : regex_cmp a (set ((0x61, 0x61) ∷ (0x70, 0x71) ∷ [])) ≡ Less
unfolding order
shorter_set_first = refl

left_part_first : regex_cmp (cat b a) (cat a b) ≡ Greater
unfolding order
left_part_first = refl

prefix_of_parts_first : regex_cmp (alt (more a (more b no_more))) (alt (more a (more b (more c no_more)))) ≡ Less
unfolding order
prefix_of_parts_first = refl

body_before_bounds : regex_cmp (rep a 2 9) (rep b 0 1) ≡ Less
unfolding order
body_before_bounds = refl

-- The constructors.

touching_ranges_are_one : union ((0x61, 0x61) ∷ (0x70, 0x71) ∷ []) ((0x62, 0x6f) ∷ []) ≡ (0x61, 0x71) ∷ []
unfolding constructors
touching_ranges_are_one = refl

meeting_ranges : inter ((0, 5) ∷ (9, 12) ∷ []) ((4, 10) ∷ (12, 12) ∷ []) ≡ (4, 5) ∷ (9, 10) ∷ (12, 12) ∷ []
unfolding constructors
meeting_ranges = refl

sets_join : mkalt (a ∷ none ∷ b ∷ []) ≡ set ((0x61, 0x62) ∷ [])
unfolding constructors
sets_join = refl

union_is_sorted_and_distinct : mkalt (star b ∷ alt (more (star a) (more (star b) no_more)) ∷ eps ∷ [])
    ≡ alt (more eps (more (star a) (more (star b) no_more)))
unfolding constructors
union_is_sorted_and_distinct = refl

anything_takes_all : mkalt (a ∷ star a ∷ neg none ∷ []) ≡ neg none
unfolding constructors
anything_takes_all = refl

empty_union : mkalt [] ≡ none
unfolding constructors
empty_union = refl

sets_meet : mkand (a ∷ neg none ∷ any_character ∷ []) ≡ a
unfolding constructors
sets_meet = refl

disjoint_sets_meet_in_none : mkand (a ∷ star b ∷ b ∷ []) ≡ none
unfolding constructors
disjoint_sets_meet_in_none = refl

empty_intersection : mkand [] ≡ neg none
unfolding constructors
empty_intersection = refl

concatenation_leans_right : mkcat (mkcat a b) c ≡ cat a (cat b c)
unfolding constructors
concatenation_leans_right = refl

concatenation_with_none : mkcat (star a) none ≡ none
unfolding constructors
concatenation_with_none = refl

double_complement : mknot (mknot a) ≡ a
unfolding constructors
double_complement = refl

star_of_any_character : mkstar any_character ≡ neg none
unfolding constructors
star_of_any_character = refl

star_of_star : mkstar (mkstar a) ≡ star a
unfolding constructors
star_of_star = refl

repetition_out_of_order : mkrep a 3 2 ≡ none
unfolding constructors
repetition_out_of_order = refl

repetition_once : mkrep a 1 1 ≡ a
unfolding constructors
repetition_once = refl

repetition_of_none : mkrep none 0 4 ≡ eps
unfolding constructors
repetition_of_none = refl

path_from_none_to_none : mkpath none none ≡ neg none
unfolding constructors
path_from_none_to_none = refl

path_from_anything_to_none : mkpath (neg none) none ≡ none
unfolding constructors
path_from_anything_to_none = refl

path_from_none_to_anything : mkpath none (neg none) ≡ none
unfolding constructors
path_from_none_to_anything = refl

path_from_anything_to_anything : mkpath (neg none) (neg none) ≡ neg none
unfolding constructors
path_from_anything_to_anything = refl

path_to_none_stays : mkpath (star a) none ≡ path (star a) none
unfolding constructors
path_to_none_stays = refl

-- The derivative.

abbrev up_to_three : Regex
up_to_three = rep a 0 3

derivative_of_repetition : nd up_to_three 0x61 ≡ rep a 0 2
unfolding derivative
derivative_of_repetition = refl

derivative_of_repetition_elsewhere : nd up_to_three 0x62 ≡ none
unfolding derivative
derivative_of_repetition_elsewhere = refl

derivative_of_concatenation : nd (cat (star a) b) 0x62 ≡ eps
unfolding derivative
derivative_of_concatenation = refl

last_repetition : nd (rep a 0 1) 0x61 ≡ eps
unfolding derivative
last_repetition = refl

derivative_of_nullable_concatenation : nd (cat (star a) (cat a b)) 0x61
    ≡ alt (more b (more (cat (star a) (cat a b)) no_more))
unfolding derivative
derivative_of_nullable_concatenation = refl

-- the words of both `b+` and `a*`: not the empty word, and nothing is left of them by any character
abbrev nothing_left : Regex
nothing_left = and (more (cat b (star b)) (more (star a) no_more))

is_not_nullable : nullable nothing_left ≡ false
unfolding derivative
is_not_nullable = refl

nothing_by_a : nd nothing_left 0x61 ≡ none
unfolding derivative
nothing_by_a = refl

nothing_by_b : nd nothing_left 0x62 ≡ none
unfolding derivative
nothing_by_b = refl

derivative_of_path : nd (path (star a) (star a)) 0x61 ≡ path (star a) (star a)
unfolding derivative
derivative_of_path = refl

-- only the first part goes on: to the second, to none by another character, and to none where that is the second
derivative_of_path_onto : nd (path (cat a b) b) 0x61 ≡ path b b
unfolding derivative
derivative_of_path_onto = refl

derivative_of_path_elsewhere : nd (path (cat a b) b) 0x62 ≡ none
unfolding derivative
derivative_of_path_elsewhere = refl

derivative_of_path_to_none : nd (path (star a) none) 0x62 ≡ neg none
unfolding derivative
derivative_of_path_to_none = refl

-- A path goes by regexes and not by their languages: one without a word is not none.
path_from_nothing_left : mkpath nothing_left none ≡ path nothing_left none
unfolding derivative
path_from_nothing_left = refl

path_to_another_is_not_nullable : nullable (path nothing_left none) ≡ false
unfolding derivative
path_to_another_is_not_nullable = refl

path_to_itself_is_nullable : nullable (path nothing_left nothing_left) ≡ true
unfolding derivative
path_to_itself_is_nullable = refl

-- The language.

language_of_concatenation : language (cat a (star b)) (0x61 ∷ 0x62 ∷ 0x62 ∷ []) ≡ true
unfolding regex_language
language_of_concatenation = refl

language_of_complement : language (neg (cat a (star b))) (0x61 ∷ 0x62 ∷ 0x61 ∷ []) ≡ true
unfolding regex_language
language_of_complement = refl

language_of_intersection : language (and (more (star a) (more (rep a 2 3) no_more))) (0x61 ∷ []) ≡ false
unfolding regex_language
language_of_intersection = refl

language_of_path : language (path (star a) none) (0x61 ∷ 0x62 ∷ []) ≡ true
unfolding regex_language
language_of_path = refl

language_of_path_elsewhere : language (path (star a) none) (0x61 ∷ []) ≡ false
unfolding regex_language
language_of_path_elsewhere = refl

one_word_of_path : language (path (cat a b) b) (0x61 ∷ []) ≡ true
unfolding regex_language
one_word_of_path = refl

no_longer_word_of_path : language (path (cat a b) b) (0x61 ∷ 0x62 ∷ []) ≡ false
unfolding regex_language
no_longer_word_of_path = refl

no_empty_word_of_path : language (path nothing_left none) [] ≡ false
unfolding regex_language
no_empty_word_of_path = refl

-- The normal regex.

normal_of_word : normal ab ≡ cat a b
unfolding normal_regex
normal_of_word = refl

normal_of_plus : normal (re_plus ab) ≡ cat a (cat b (star (cat a b)))
unfolding normal_regex
normal_of_plus = refl

normal_of_difference : normal (re_diff re_all ab) ≡ neg (cat a b)
unfolding normal_regex
normal_of_difference = refl

normal_of_intersection : normal (re_inter (re_star (re_word (0x61 ∷ []))) (re_plus (re_word (0x62 ∷ []))))
    ≡ nothing_left
unfolding normal_regex
normal_of_intersection = refl

normal_of_range : normal (re_range (0x61 ∷ []) (0x7a ∷ [])) ≡ set ((0x61, 0x7a) ∷ [])
unfolding normal_regex
normal_of_range = refl

normal_of_power : normal (re_power ab 0) ≡ eps
unfolding normal_regex
normal_of_power = refl

-- Which regexes are normal.

repetition_is_normal : is_normal up_to_three ≡ true
unfolding normal_form
repetition_is_normal = refl

union_is_normal : is_normal (alt (more eps (more (star a) no_more))) ≡ true
unfolding normal_form
union_is_normal = refl

leaning_left_is_not_normal : is_normal (cat (cat a b) c) ≡ false
unfolding normal_form
leaning_left_is_not_normal = refl

unsorted_is_not_normal : is_normal (alt (more (star a) (more eps no_more))) ≡ false
unfolding normal_form
unsorted_is_not_normal = refl

two_sets_are_not_normal : is_normal (alt (more a (more b no_more))) ≡ false
unfolding normal_form
two_sets_are_not_normal = refl

touching_ranges_are_not_normal : is_normal (set ((0x61, 0x61) ∷ (0x62, 0x62) ∷ [])) ≡ false
unfolding normal_form
touching_ranges_are_not_normal = refl

bounds_out_of_order_are_not_normal : is_normal (rep a 3 2) ≡ false
unfolding normal_form
bounds_out_of_order_are_not_normal = refl

path_is_normal : is_normal (path (cat a b) none) ≡ true
unfolding normal_form
path_is_normal = refl

path_from_none_is_not_normal : is_normal (path none a) ≡ false
unfolding normal_form
path_from_none_is_not_normal = refl

path_from_anything_is_not_normal : is_normal (path (neg none) (neg none)) ≡ false
unfolding normal_form
path_from_anything_is_not_normal = refl

path_to_a_part_that_is_not_normal : is_normal (path (cat a b) (cat (cat a b) c)) ≡ false
unfolding normal_form
path_to_a_part_that_is_not_normal = refl
