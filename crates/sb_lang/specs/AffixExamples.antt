-- Computed examples of parts of words, as tests and as regexes.
use Rattle.std.specs.Prelude.{◌≡◌, ℕ, true, false, List, [], ◌∷◌, refl}
use Rattle.sb_class.specs.Ranges.{in_range, in_ranges}
use Rattle.sb_lang.specs.Languages.{cut}
use Rattle.sb_lang.specs.Regex.{Regex, none, eps, set, cat, alt, neg, no_more, more, regexes, parts}
use Rattle.sb_lang.specs.Order.{range_code, code, codes}
use Rattle.sb_lang.specs.RangeSets.{with_range, union}
use Rattle.sb_lang.specs.Constructors.{mkset, mkcat, alternatives, ranges_of, is_set, union_of, join_sets, with_regex, sorted, alt_of, mkalt}
use Rattle.sb_lang.specs.Normal.{word_regex}
use Rattle.sb_lang.specs.Language.{language}
use Rattle.sb_lang.specs.Affixes.{is_prefix, is_suffix, is_inside, beginning_with, ending_with, containing, ends_of, prefixes, suffixes, factors}

-- What the examples compute by.

affix_regexes : Unit {0}
unfolding beginning_with ending_with containing ends_of prefixes suffixes factors word_regex mkset mkcat mkalt
    alternatives parts regexes join_sets ranges_of is_set union_of union with_range sorted with_regex alt_of code codes
    range_code
affix_regexes = tt

affix_languages : Unit {0}
unfolding language cut in_ranges in_range affix_regexes
affix_languages = tt

-- the characters a, b and c, and the words ab and abc
abbrev a : Regex
a = set ((0x61, 0x61) ∷ [])

abbrev b : Regex
b = set ((0x62, 0x62) ∷ [])

abbrev c : Regex
c = set ((0x63, 0x63) ∷ [])

abbrev ab : List ℕ
ab = 0x61 ∷ 0x62 ∷ []

abbrev abc : List ℕ
abc = 0x61 ∷ 0x62 ∷ 0x63 ∷ []

-- The tests.

ab_begins_abc : is_prefix ab abc ≡ true
ab_begins_abc = refl

word_begins_itself : is_prefix abc abc ≡ true
word_begins_itself = refl

longer_word_does_not_begin : is_prefix abc ab ≡ false
longer_word_does_not_begin = refl

ab_does_not_end_abc : is_suffix ab abc ≡ false
ab_does_not_end_abc = refl

bc_ends_abc : is_suffix (0x62 ∷ 0x63 ∷ []) abc ≡ true
bc_ends_abc = refl

b_is_inside_abc : is_inside (0x62 ∷ []) abc ≡ true
b_is_inside_abc = refl

ac_is_not_inside_abc : is_inside (0x61 ∷ 0x63 ∷ []) abc ≡ false
ac_is_not_inside_abc = refl

empty_word_is_inside_itself : is_inside [] [] ≡ true
empty_word_is_inside_itself = refl

-- The regexes.

prefixes_of_empty_word : prefixes [] ≡ eps
unfolding affix_regexes
prefixes_of_empty_word = refl

suffixes_of_empty_word : suffixes [] ≡ eps
unfolding affix_regexes
suffixes_of_empty_word = refl

factors_of_empty_word : factors [] ≡ eps
unfolding affix_regexes
factors_of_empty_word = refl

-- an a with what may follow it, and the word may end in front of each
prefixes_of_ab : prefixes ab ≡ alt (more eps (more (cat a (alt (more eps (more b no_more)))) no_more))
unfolding affix_regexes
prefixes_of_ab = refl

suffixes_of_ab : suffixes ab ≡ alt (more eps (more b (more (cat a b) no_more)))
unfolding affix_regexes
suffixes_of_ab = refl

-- the prefixes of ab, of b and of the empty word, as one union
factors_of_ab : factors ab ≡ alt (more eps (more b (more (cat a (alt (more eps (more b no_more)))) no_more)))
unfolding affix_regexes
factors_of_ab = refl

-- they have the words of the prefixes of aa, and are another regex
factors_of_aa : factors (0x61 ∷ 0x61 ∷ [])
    ≡ alt (more eps (more a (more (cat a (alt (more eps (more a no_more)))) no_more)))
unfolding affix_regexes
factors_of_aa = refl

words_that_begin_with_ab : beginning_with ab ≡ cat a (cat b (neg none))
unfolding affix_regexes
words_that_begin_with_ab = refl

words_that_end_with_ab : ending_with ab ≡ cat (neg none) (cat a b)
unfolding affix_regexes
words_that_end_with_ab = refl

words_that_hold_ab : containing ab ≡ cat (neg none) (cat a (cat b (neg none)))
unfolding affix_regexes
words_that_hold_ab = refl

each_word_begins_with_empty_word : beginning_with [] ≡ neg none
unfolding affix_regexes
each_word_begins_with_empty_word = refl

-- Their words.

ab_is_a_prefix : language (prefixes abc) ab ≡ true
unfolding affix_languages
ab_is_a_prefix = refl

bc_is_no_prefix : language (prefixes abc) (0x62 ∷ 0x63 ∷ []) ≡ false
unfolding affix_languages
bc_is_no_prefix = refl

bc_is_a_suffix : language (suffixes abc) (0x62 ∷ 0x63 ∷ []) ≡ true
unfolding affix_languages
bc_is_a_suffix = refl

ab_is_no_suffix : language (suffixes abc) ab ≡ false
unfolding affix_languages
ab_is_no_suffix = refl

bc_is_a_factor : language (factors abc) (0x62 ∷ 0x63 ∷ []) ≡ true
unfolding affix_languages
bc_is_a_factor = refl

ac_is_no_factor : language (factors abc) (0x61 ∷ 0x63 ∷ []) ≡ false
unfolding affix_languages
ac_is_no_factor = refl

abc_begins_with_ab : language (beginning_with ab) abc ≡ true
unfolding affix_languages
abc_begins_with_ab = refl

abc_does_not_end_with_ab : language (ending_with ab) abc ≡ false
unfolding affix_languages
abc_does_not_end_with_ab = refl

cab_holds_ab : language (containing ab) (0x63 ∷ 0x61 ∷ 0x62 ∷ []) ≡ true
unfolding affix_languages
cab_holds_ab = refl

acb_does_not_hold_ab : language (containing ab) (0x61 ∷ 0x63 ∷ 0x62 ∷ []) ≡ false
unfolding affix_languages
acb_does_not_hold_ab = refl
