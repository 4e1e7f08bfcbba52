-- Computed examples of Boolean structure within the limits on sizes.
use Rattle.std.specs.Prelude.{◌≡◌, ℕ, Bool, true, false, ◌&&◌, [], ◌∷◌, replicate, codes, refl}
use Rattle.sb_meaning.specs.Terms.{Term, boolean, text, constant, word, apply, terms_of}
use Rattle.sb_meaning.specs.Terms as symbol
use Rattle.sb_meaning.specs.Examples.{one, two, x}
use Rattle.sb_script.specs.Brought.{is_structure}
use Rattle.sb_script.specs.Fragment.{fits}
use Rattle.sb_script.specs.State.{asserted}
use Rattle.sb_fragment.specs.Compared.{compared}
use Rattle.sb_fragment.specs.Rules.{is_broken}
use Rattle.sb_fragment.specs.declared.rules.Reason.TheVariants.{RepeatedVariable, NotGround, TooLarge}

abbrev is_fit : Term → Bool
is_fit t = is_structure t && fits t

-- the String constant y, and the Bool constants p and q
abbrev y : Term
y = constant 1 text

abbrev p : Term
p = constant 3 boolean

abbrev q : Term
q = constant 4 boolean

abbrev a : Term
a = word (codes "a")

a_choice : is_fit (apply symbol.core_ite (terms_of (p ∷ two symbol.core_equal x a ∷ one symbol.core_not q ∷ []))) ≡ true
a_choice = refl

a_chain : is_fit (apply symbol.core_equal (terms_of (x ∷ a ∷ y ∷ word (codes "b") ∷ []))) ≡ true
a_chain = refl

bools_apart : is_fit (apply symbol.core_distinct (terms_of (p ∷ q ∷ p ∷ []))) ≡ true
bools_apart = refl

two_apart : is_fit (two symbol.core_distinct a x) ≡ true
two_apart = refl

-- two words and a constant are compared two by two, two constants are not
words_apart : is_fit (apply symbol.core_distinct (terms_of (x ∷ a ∷ word (codes "b") ∷ []))) ≡ true
words_apart = refl

three_apart : is_fit (apply symbol.core_distinct (terms_of (x ∷ a ∷ y ∷ []))) ≡ false
three_apart = refl

-- one String alone is not compared
one_alone : is_fit (apply symbol.core_equal (terms_of (x ∷ []))) ≡ true
one_alone = refl

-- two words are compared, a word that is concatenated among them
two_words : is_fit (two symbol.core_equal (two symbol.str_concat a a) (word (codes "aa"))) ≡ true
two_words = refl

-- constants that are joined, each once
joined_member : is_fit (two symbol.str_in_re (two symbol.str_concat x y) (apply symbol.re_all (terms_of []))) ≡ true
joined_member = refl

joined_chain : is_fit (apply symbol.core_equal (terms_of (two symbol.str_concat x y ∷ a ∷ two symbol.str_concat a y
    ∷ []))) ≡ true
joined_chain = refl

joined_twice : is_fit (two symbol.core_equal (two symbol.str_concat x x) a) ≡ false
joined_twice = refl

-- parts of words: one side is ground, and in the other one each constant stands once
a_prefix : is_fit (two symbol.str_prefixof a (two symbol.str_concat x y)) ≡ true
a_prefix = refl

a_suffix : is_fit (two symbol.str_suffixof (two symbol.str_concat x y) (word (codes "ab"))) ≡ true
a_suffix = refl

-- what contains the other one stands in front
a_factor : is_fit (one symbol.core_not (two symbol.str_contains (two symbol.str_concat x a) (word (codes "b")))) ≡ true
a_factor = refl

factor_twice : is_fit (two symbol.str_contains a (two symbol.str_concat x x)) ≡ false
factor_twice = refl

no_ground_side : is_fit (two symbol.str_suffixof x y) ≡ false
no_ground_side = refl

-- the prefixes of a word are asked for where it has 1,000 characters at most; a word may be one of a longer one
longest_whole : is_fit (two symbol.str_prefixof x (word (replicate 1000 97))) ≡ true
longest_whole = refl

whole_too_long : is_fit (two symbol.str_prefixof x (word (replicate 1001 97))) ≡ false
whole_too_long = refl

prefix_of_longer : is_fit (two symbol.str_prefixof a (word (replicate 1001 97))) ≡ true
prefix_of_longer = refl

-- the rules that these break
twice_in_a_part : is_broken RepeatedVariable (asserted (two symbol.str_contains a (two symbol.str_concat x x))) ≡ true
twice_in_a_part = refl

neither_is_ground : is_broken NotGround (asserted (two symbol.str_suffixof x y)) ≡ true
neither_is_ground = refl

too_large : is_broken TooLarge (asserted (two symbol.str_prefixof x (word (replicate 1001 97)))) ≡ true
too_large = refl

-- two constants are Boolean structure, and do not fit
two_constants : is_fit (two symbol.core_or p (two symbol.core_equal x y)) ≡ false
two_constants = refl

what_is_a_chain : compared {A = ℕ} false (1 ∷ 2 ∷ 3 ∷ []) ≡ (1, 2) ∷ (2, 3) ∷ []
what_is_a_chain = refl

what_is_apart : compared {A = ℕ} true (1 ∷ 2 ∷ 3 ∷ []) ≡ (1, 2) ∷ (1, 3) ∷ (2, 3) ∷ []
what_is_apart = refl
