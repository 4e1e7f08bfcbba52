-- The literal of a term is true exactly where the term is.
use Rattle.std.proofs.Common.{◌≡◌, ℕ, Bool, true, false, not, ◌&&◌, if◌then◌else◌, List, [], ◌∷◌, ◌++◌, map, Option, Some, None, option_and_then, refl, sym, ap, ap₂, subst, ◌∙◌}
use Rattle.std.specs.Prelude.{ℤ, pos, ◌-ℤ◌, neg_ℤ, int_le}
use Rattle.std.specs.List.{list_all, flat_map}
use Rattle.std.proofs.Math.Bool.{and-true, and_assoc}
use Rattle.std.proofs.lemmas.Bool.{and_parts}
use Rattle.std.proofs.lemmas.Option.{option_and_then_some}
use Rattle.sb_lit.specs.declared.clause.Lit.{Lit}
use Rattle.sb_lang.specs.OrderLaws.{OrderTellsApart}
use Rattle.sb_lang.specs.NormalLaws.{NormalHasTermsWords}
use Rattle.sb_lang.specs.Affixes.{is_prefix, is_suffix, is_inside, beginning_with, ending_with, containing, prefixes, suffixes, factors}
use Rattle.sb_lang.specs.AffixLaws.{AffixesHaveTheirWords}
use Rattle.sb_meaning.specs.Terms.{Sort, boolean, integer, text, reglan, Symbol, Term, Terms, constant, word, numeral, apply, parameter, no_terms, with_term}
use Rattle.sb_meaning.specs.Terms as symbol
use Rattle.sb_meaning.specs.Sorts.{sort_of}
use Rattle.sb_meaning.specs.Values.{Value, Text, Int, Truth, Valuation, is_of, value_in}
use Rattle.sb_meaning.specs.Truth.{Meaning, means_word, means_number, means_truth, means_reglan, meaning_of_value, word_in, number_in, truth_in, some_true, implied, xor_of, are_equal, is_chain, are_pairs, is_less, is_at_most, of_two_words, chosen, meaning_of, meanings_of}
use Rattle.sb_meaning.specs.Truth as meaning
use Rattle.sb_rulebook.specs.Atoms.{Atom, bool_atom}
use Rattle.sb_rulebook.specs.Parts.{together}
use Rattle.sb_rulebook.specs.Translation.{negated, conjunction, disjunction, implications, exclusive, choice, compared, word_equality, affix, number_equality, equivalence, truth_equality, Argument, equality, of_neighbours, of_pairs, only_one, member_of, of_terms, of_literals, translation, arguments_of}
use Rattle.sb_rulebook.specs.Translation as rule
use Rattle.sb_sound.specs.TermLaws.{fits_sorts, all_fit, PiecesKeepWord, SumsKeepNumber}
use Rattle.sb_sound.specs.TranslationLaws.{TranslationHolds}
use Rattle.sb_sound.proofs.AtomLiterals.{positive_holds}
use Rattle.sb_sound.proofs.GateLiterals.{T, Says, SayEach, says_itself, says_other, says_negated, says_nothing, says_then, conjunction_says, all_true_literals, disjunction_says, implications_say, exclusive_says, equivalence_says, choice_says, front, nothing_together, say_none, say_one, all_say}
use Rattle.sb_sound.proofs.WordLiterals.{Setting, declared_value, word_equality_says, IsTestOfWords, affix_says, member_says}
use Rattle.sb_sound.proofs.NumberLiterals.{compared_says, number_equality_says, at_most_by_difference, less_by_difference}

-- Arguments.

-- the argument fits the sorts, and its literal has its truth
record IsTrueTo (v : Valuation) (sorts : List Sort) (atoms : List Atom) (a : Argument) : Type 0 where
  fits : fits_sorts sorts a.0 ≡ true
  says : (l : Lit) → a.1 ≡ Some l → meaning_of v a.0 ≡ means_truth (T v atoms l)

abbrev AllTrueTo : Valuation → List Sort → List Atom → List Argument → Type 0
AllTrueTo v sorts atoms [] = Unit {0}
AllTrueTo v sorts atoms (a ∷ rest) = IsTrueTo v sorts atoms a × AllTrueTo v sorts atoms rest

-- what arguments mean
abbrev M : Valuation → List Argument → List Meaning
M v arguments = map (λ a. meaning_of v a.0) arguments

-- Arguments by their literals.

literals_meant : (v : Valuation) (sorts : List Sort) (atoms : List Atom) (arguments : List Argument) (ls : List Lit)
    → AllTrueTo v sorts atoms arguments → together (map (λ a. a.1) arguments) ≡ Some ls
    → M v arguments ≡ map (λ l. means_truth (T v atoms l)) ls
literals_meant v sorts atoms [] ls good h = sym (ap (map (λ l. means_truth (T v atoms l))) (nothing_together ls h))
literals_meant v sorts atoms (a ∷ rest) ls good h =
    let f = front a.1 (map (λ a. a.1) rest) ls h in
    ap₂ ◌∷◌ (good.0.says f.one f.first) (literals_meant v sorts atoms rest f.others good.1 f.later)
    ∙ sym (ap (map (λ l. means_truth (T v atoms l))) f.whole)

truths_meant : (v : Valuation) (atoms : List Atom) (ls : List Lit)
    → flat_map truth_in (map (λ l. means_truth (T v atoms l)) ls) ≡ map (T v atoms) ls
truths_meant v atoms [] = refl
truths_meant v atoms (l ∷ ls) = ap (λ bs. T v atoms l ∷ bs) (truths_meant v atoms ls)

of_literals_says : (v : Valuation) (sorts : List Sort) (atoms : List Atom) (arguments : List Argument)
    → AllTrueTo v sorts atoms arguments → (make : List Lit → Option Lit) (f : List Bool → Bool)
    → ((ls : List Lit) → Says v atoms (make ls) (f (map (T v atoms) ls)))
    → Says v atoms (of_literals make arguments) (f (flat_map truth_in (M v arguments)))
of_literals_says v sorts atoms arguments good make f says =
    says_then v atoms make (together (map (λ a. a.1) arguments)) (f (flat_map truth_in (M v arguments)))
    (λ ls there. says_other v atoms (make ls) (f (map (T v atoms) ls)) (f (flat_map truth_in (M v arguments)))
    (ap f (sym (ap (flat_map truth_in) (literals_meant v sorts atoms arguments ls good there)
    ∙ truths_meant v atoms ls)))
    (says ls))

only_one_says : (v : Valuation) (atoms : List Atom) (ls : List Lit)
    → Says v atoms (only_one ls) (meaning.all_true (map (T v atoms) ls))
only_one_says v atoms [] = says_nothing v atoms true
only_one_says v atoms (l ∷ []) =
    says_other v atoms (Some l) (T v atoms l) (T v atoms l && true) (sym (and-true (T v atoms l)))
    (says_itself v atoms l)
only_one_says v atoms (l ∷ m ∷ ls) = says_nothing v atoms (meaning.all_true (map (T v atoms) (l ∷ m ∷ ls)))

-- a choice means what the chosen argument does
choice_meant : (c a b : Bool)
    → chosen (means_truth c ∷ means_truth a ∷ means_truth b ∷ []) ≡ means_truth (if c then a else b)
choice_meant true a b = refl
choice_meant false a b = refl

choice_of_literals : (v : Valuation) (sorts : List Sort) (atoms : List Atom) → Setting v sorts atoms
    → (ls : List Lit) (l : Lit) → choice atoms ls ≡ Some l
    → chosen (map (λ l. means_truth (T v atoms l)) ls) ≡ means_truth (T v atoms l)
choice_of_literals v sorts atoms s (c ∷ k ∷ m ∷ []) l h =
    choice_meant (T v atoms c) (T v atoms k) (T v atoms m)
    ∙ ap (λ b. means_truth b) (sym (choice_says v atoms s.truth c k m l h))
choice_of_literals v sorts atoms s [] l h = absurd (Prim.cc (h))
choice_of_literals v sorts atoms s (c ∷ []) l h = absurd (Prim.cc (h))
choice_of_literals v sorts atoms s (c ∷ k ∷ []) l h = absurd (Prim.cc (h))
choice_of_literals v sorts atoms s (c ∷ k ∷ m ∷ n ∷ ls) l h = absurd (Prim.cc (h))

-- Relations of arguments.

neighbours_say : (v : Valuation) (sorts : List Sort) (atoms : List Atom)
    → (relation : Argument → Argument → Option Lit) (test : Meaning → Meaning → Bool)
    → ((a b : Argument) → IsTrueTo v sorts atoms a → IsTrueTo v sorts atoms b
    → Says v atoms (relation a b) (test (meaning_of v a.0) (meaning_of v b.0)))
    → (arguments : List Argument) → AllTrueTo v sorts atoms arguments
    → SayEach v atoms (of_neighbours relation arguments) (is_chain test (M v arguments))
neighbours_say v sorts atoms relation test says [] good = say_none v atoms
neighbours_say v sorts atoms relation test says (a ∷ []) good = say_none v atoms
neighbours_say v sorts atoms relation test says (a ∷ b ∷ rest) good =
    say_one v atoms (relation a b) (of_neighbours relation (b ∷ rest)) (test (meaning_of v a.0) (meaning_of v b.0))
    (is_chain test (M v (b ∷ rest))) (says a b good.0 good.1.0)
    (neighbours_say v sorts atoms relation test says (b ∷ rest) good.1)

each_pair_says : (v : Valuation) (sorts : List Sort) (atoms : List Atom)
    → (relation : Argument → Argument → Option Lit) (test : Meaning → Meaning → Bool)
    → ((a b : Argument) → IsTrueTo v sorts atoms a → IsTrueTo v sorts atoms b
    → Says v atoms (relation a b) (test (meaning_of v a.0) (meaning_of v b.0)))
    → (a : Argument) → IsTrueTo v sorts atoms a → (os : List (Option Lit)) (c : Bool) → SayEach v atoms os c
    → (rest : List Argument) → AllTrueTo v sorts atoms rest
    → SayEach v atoms (map (relation a) rest ++ os) (list_all (test (meaning_of v a.0)) (M v rest) && c)
each_pair_says v sorts atoms relation test says a fine os c more [] good = more
each_pair_says v sorts atoms relation test says a fine os c more (b ∷ rest) good =
    let t = test (meaning_of v a.0) (meaning_of v b.0) in
    let ts = list_all (test (meaning_of v a.0)) (M v rest) in
    subst (λ (x : Bool). SayEach v atoms (relation a b ∷ map (relation a) rest ++ os) x) (sym (and_assoc t ts c))
    (say_one v atoms (relation a b) (map (relation a) rest ++ os) t (ts && c) (says a b fine good.0)
    (each_pair_says v sorts atoms relation test says a fine os c more rest good.1))

pairs_say : (v : Valuation) (sorts : List Sort) (atoms : List Atom)
    → (relation : Argument → Argument → Option Lit) (test : Meaning → Meaning → Bool)
    → ((a b : Argument) → IsTrueTo v sorts atoms a → IsTrueTo v sorts atoms b
    → Says v atoms (relation a b) (test (meaning_of v a.0) (meaning_of v b.0)))
    → (arguments : List Argument) → AllTrueTo v sorts atoms arguments
    → SayEach v atoms (of_pairs relation arguments) (are_pairs test (M v arguments))
pairs_say v sorts atoms relation test says [] good = say_none v atoms
pairs_say v sorts atoms relation test says (a ∷ rest) good =
    each_pair_says v sorts atoms relation test says a good.0 (of_pairs relation rest) (are_pairs test (M v rest))
    (pairs_say v sorts atoms relation test says rest good.1) rest good.1

-- Equalities.

truth_equality_says : (v : Valuation) (sorts : List Sort) (atoms : List Atom) → Setting v sorts atoms
    → (a b : Argument) → IsTrueTo v sorts atoms a → IsTrueTo v sorts atoms b
    → Says v atoms (truth_equality atoms a.1 b.1) (are_equal (meaning_of v a.0) (meaning_of v b.0))
truth_equality_says v sorts atoms s a b good_a good_b k h =
    option_and_then_some (λ l. option_and_then (equivalence atoms l) b.1) a.1 k h
    (λ l here rest. option_and_then_some (equivalence atoms l) b.1 k rest
    (λ m there same. equivalence_says v atoms s.truth l m k same
    ∙ sym (ap₂ are_equal (good_a.says l here) (good_b.says m there))))

equality_says : (v : Valuation) (sorts : List Sort) (atoms : List Atom) → Setting v sorts atoms
    → (a b : Argument) → IsTrueTo v sorts atoms a → IsTrueTo v sorts atoms b
    → Says v atoms (equality atoms a b) (are_equal (meaning_of v a.0) (meaning_of v b.0))
equality_says v sorts atoms s a b good_a good_b = step (sort_of a.0)
  where
    step : (k : Sort) → Says v atoms (elim k [
      | boolean ↦ truth_equality atoms a.1 b.1
      | integer ↦ number_equality atoms a.0 b.0
      | text ↦ word_equality atoms a.0 b.0
      | reglan ↦ None
    ]) (are_equal (meaning_of v a.0) (meaning_of v b.0))
    step boolean = truth_equality_says v sorts atoms s a b good_a good_b
    step integer = number_equality_says v sorts atoms s a.0 b.0 good_a.fits good_b.fits
    step text = word_equality_says v sorts atoms s a.0 b.0 good_a.fits good_b.fits
    step reglan = says_nothing v atoms (are_equal (meaning_of v a.0) (meaning_of v b.0))

-- Comparisons.

-- the arguments mean numbers, and the literal is true where the test of them is
record IsTestOf (v : Valuation) (atoms : List Atom) (test : ℤ → ℤ → Bool) (a b : Argument) (l : Lit) : Type 0 where
  first : ℤ
  second : ℤ
  first_meaning : meaning_of v a.0 ≡ means_number first
  second_meaning : meaning_of v b.0 ≡ means_number second
  truth : T v atoms l ≡ test first second

one_is_chain : (test : ℤ → ℤ → Bool) (m : Meaning) → true ≡ is_chain test (flat_map number_in (m ∷ []))
one_is_chain test (means_word w) = refl
one_is_chain test (means_number n) = refl
one_is_chain test (means_truth b) = refl
one_is_chain test (means_reglan R) = refl

numbers_say : (v : Valuation) (sorts : List Sort) (atoms : List Atom)
    → (relation : Argument → Argument → Option Lit) (test : ℤ → ℤ → Bool)
    → ((a b : Argument) → IsTrueTo v sorts atoms a → IsTrueTo v sorts atoms b
    → (l : Lit) → relation a b ≡ Some l → IsTestOf v atoms test a b l)
    → (arguments : List Argument) → AllTrueTo v sorts atoms arguments
    → SayEach v atoms (of_neighbours relation arguments) (is_chain test (flat_map number_in (M v arguments)))
numbers_say v sorts atoms relation test says [] good = say_none v atoms
numbers_say v sorts atoms relation test says (a ∷ []) good = λ ls h.
    say_none v atoms ls h ∙ one_is_chain test (meaning_of v a.0)
numbers_say v sorts atoms relation test says (a ∷ b ∷ rest) good = λ ls h.
    let f = front (relation a b) (of_neighbours relation (b ∷ rest)) ls h in
    let c = says a b good.0 good.1.0 f.one f.first in
    ap (list_all (T v atoms)) f.whole
    ∙ ap₂ ◌&&◌ c.truth (numbers_say v sorts atoms relation test says (b ∷ rest) good.1 f.others f.later
    ∙ ap (λ n. is_chain test (flat_map number_in (n ∷ M v rest))) c.second_meaning)
    ∙ sym (ap₂ (λ m n. is_chain test (flat_map number_in (m ∷ n ∷ M v rest))) c.first_meaning c.second_meaning)

compared_up : (v : Valuation) (sorts : List Sort) (atoms : List Atom) → Setting v sorts atoms
    → (k : ℤ) (test : ℤ → ℤ → Bool) → ((m n : ℤ) → int_le (m -ℤ n) k ≡ test m n)
    → (a b : Argument) → IsTrueTo v sorts atoms a → IsTrueTo v sorts atoms b
    → (l : Lit) → compared atoms k a.0 b.0 ≡ Some l → IsTestOf v atoms test a b l
compared_up v sorts atoms s k test same a b good_a good_b l h =
    let c = compared_says v sorts atoms s k a.0 b.0 good_a.fits good_b.fits l h in
    record {
      first = c.first;
      second = c.second;
      first_meaning = c.first_meaning;
      second_meaning = c.second_meaning;
      truth = c.truth ∙ same c.first c.second;
    }

compared_down : (v : Valuation) (sorts : List Sort) (atoms : List Atom) → Setting v sorts atoms
    → (k : ℤ) (test : ℤ → ℤ → Bool) → ((m n : ℤ) → int_le (m -ℤ n) k ≡ test m n)
    → (a b : Argument) → IsTrueTo v sorts atoms a → IsTrueTo v sorts atoms b
    → (l : Lit) → compared atoms k b.0 a.0 ≡ Some l → IsTestOf v atoms (λ m n. test n m) a b l
compared_down v sorts atoms s k test same a b good_a good_b l h =
    let c = compared_says v sorts atoms s k b.0 a.0 good_b.fits good_a.fits l h in
    record {
      first = c.second;
      second = c.first;
      first_meaning = c.second_meaning;
      second_meaning = c.first_meaning;
      truth = c.truth ∙ same c.first c.second;
    }

-- Symbols.

member_of_says : (v : Valuation) (sorts : List Sort) (atoms : List Atom) → Setting v sorts atoms
    → (arguments : List Argument) → AllTrueTo v sorts atoms arguments → (l : Lit)
    → member_of atoms arguments ≡ Some l
    → meaning.applied symbol.str_in_re (M v arguments) ≡ means_truth (T v atoms l)
member_of_says v sorts atoms s (t ∷ R ∷ []) good l h =
    ap (λ b. means_truth b) (sym (member_says v sorts atoms s t.0 R.0 good.0.fits l h))
member_of_says v sorts atoms s [] good l h = absurd (Prim.cc (h))
member_of_says v sorts atoms s (t ∷ []) good l h = absurd (Prim.cc (h))
member_of_says v sorts atoms s (t ∷ R ∷ a ∷ rest) good l h = absurd (Prim.cc (h))

of_terms_says : (v : Valuation) (sorts : List Sort) (atoms : List Atom) (make : Term → Term → Option Lit)
    → (test : List ℕ → List ℕ → Bool)
    → ((a b : Term) → fits_sorts sorts a ≡ true → fits_sorts sorts b ≡ true → (l : Lit) → make a b ≡ Some l
    → IsTestOfWords v atoms test a b l)
    → (arguments : List Argument) → AllTrueTo v sorts atoms arguments → (l : Lit) → of_terms make arguments ≡ Some l
    → means_truth (of_two_words test (flat_map word_in (M v arguments))) ≡ means_truth (T v atoms l)
of_terms_says v sorts atoms make test says (a ∷ b ∷ []) good l h =
    let two = says a.0 b.0 good.0.fits good.1.0.fits l h in
    ap₂ (λ m n. means_truth (of_two_words test (flat_map word_in (m ∷ n ∷ [])))) two.first_meaning two.second_meaning
    ∙ ap (λ b. means_truth b) (sym two.truth)
of_terms_says v sorts atoms make test says [] good l h = absurd (Prim.cc (h))
of_terms_says v sorts atoms make test says (a ∷ []) good l h = absurd (Prim.cc (h))
of_terms_says v sorts atoms make test says (a ∷ b ∷ c ∷ rest) good l h = absurd (Prim.cc (h))

-- the same with the arguments turned
turned : (v : Valuation) (atoms : List Atom) (test : List ℕ → List ℕ → Bool) (a b : Term) (l : Lit)
    → IsTestOfWords v atoms test b a l → IsTestOfWords v atoms (λ u w. test w u) a b l
turned v atoms test a b l two = record {
  first = two.second;
  second = two.first;
  first_meaning = two.second_meaning;
  second_meaning = two.first_meaning;
  truth = two.truth;
}

applied_says : (v : Valuation) (sorts : List Sort) (atoms : List Atom) → Setting v sorts atoms
    → (f : Symbol) (arguments : List Argument) → AllTrueTo v sorts atoms arguments → (l : Lit)
    → rule.applied atoms f arguments ≡ Some l → meaning.applied f (M v arguments) ≡ means_truth (T v atoms l)
applied_says v sorts atoms s symbol.core_true arguments good l h =
    ap (λ b. means_truth b) (sym (conjunction_says v atoms s.truth [] l h))
applied_says v sorts atoms s symbol.core_false arguments good l h =
    ap (λ b. means_truth b)
    (sym (says_negated v atoms (conjunction atoms []) true (conjunction_says v atoms s.truth []) l h))
applied_says v sorts atoms s symbol.core_not arguments good l h =
    ap (λ b. means_truth b) (sym (says_negated v atoms (of_literals only_one arguments)
    (meaning.all_true (flat_map truth_in (M v arguments)))
    (of_literals_says v sorts atoms arguments good only_one meaning.all_true (only_one_says v atoms)) l h))
applied_says v sorts atoms s symbol.core_and arguments good l h =
    ap (λ b. means_truth b)
    (sym (of_literals_says v sorts atoms arguments good (conjunction atoms) meaning.all_true
    (λ ls. says_other v atoms (conjunction atoms ls) (list_all (T v atoms) ls) (meaning.all_true (map (T v atoms) ls))
    (all_true_literals (T v atoms) ls) (conjunction_says v atoms s.truth ls)) l h))
applied_says v sorts atoms s symbol.core_or arguments good l h =
    ap (λ b. means_truth b)
    (sym (of_literals_says v sorts atoms arguments good (disjunction atoms) some_true
    (disjunction_says v atoms s.truth) l h))
applied_says v sorts atoms s symbol.core_implies arguments good l h =
    ap (λ b. means_truth b)
    (sym (of_literals_says v sorts atoms arguments good (implications atoms) implied
    (implications_say v atoms s.truth) l h))
applied_says v sorts atoms s symbol.core_xor arguments good l h =
    ap (λ b. means_truth b)
    (sym (of_literals_says v sorts atoms arguments good (exclusive atoms) xor_of (exclusive_says v atoms s.truth) l h))
applied_says v sorts atoms s symbol.core_ite arguments good l h =
    option_and_then_some (choice atoms) (together (map (λ a. a.1) arguments)) l h
    (λ ls there chosen_one. ap chosen (literals_meant v sorts atoms arguments ls good there)
    ∙ choice_of_literals v sorts atoms s ls l chosen_one)
applied_says v sorts atoms s symbol.core_equal arguments good l h =
    ap (λ b. means_truth b)
    (sym (all_say v atoms s.truth (of_neighbours (equality atoms) arguments) (is_chain are_equal (M v arguments))
    (neighbours_say v sorts atoms (equality atoms) are_equal (equality_says v sorts atoms s) arguments good) l h))
applied_says v sorts atoms s symbol.core_distinct arguments good l h =
    ap (λ b. means_truth b)
    (sym (all_say v atoms s.truth (of_pairs (λ a b. negated (equality atoms a b)) arguments)
    (are_pairs (λ m n. not (are_equal m n)) (M v arguments))
    (pairs_say v sorts atoms (λ a b. negated (equality atoms a b)) (λ m n. not (are_equal m n))
    (λ a b good_a good_b. says_negated v atoms (equality atoms a b)
    (are_equal (meaning_of v a.0) (meaning_of v b.0)) (equality_says v sorts atoms s a b good_a good_b))
    arguments good) l h))
applied_says v sorts atoms s symbol.at_most arguments good l h =
    ap (λ b. means_truth b)
    (sym (all_say v atoms s.truth (of_neighbours (λ a b. compared atoms (pos 0) a.0 b.0) arguments)
    (is_chain is_at_most (flat_map number_in (M v arguments)))
    (numbers_say v sorts atoms (λ a b. compared atoms (pos 0) a.0 b.0) is_at_most
    (compared_up v sorts atoms s (pos 0) is_at_most at_most_by_difference) arguments good) l h))
applied_says v sorts atoms s symbol.less arguments good l h =
    ap (λ b. means_truth b)
    (sym (all_say v atoms s.truth (of_neighbours (λ a b. compared atoms (neg_ℤ (pos 1)) a.0 b.0) arguments)
    (is_chain is_less (flat_map number_in (M v arguments)))
    (numbers_say v sorts atoms (λ a b. compared atoms (neg_ℤ (pos 1)) a.0 b.0) is_less
    (compared_up v sorts atoms s (neg_ℤ (pos 1)) is_less less_by_difference) arguments good) l h))
applied_says v sorts atoms s symbol.at_least arguments good l h =
    ap (λ b. means_truth b)
    (sym (all_say v atoms s.truth (of_neighbours (λ a b. compared atoms (pos 0) b.0 a.0) arguments)
    (is_chain (λ m n. is_at_most n m) (flat_map number_in (M v arguments)))
    (numbers_say v sorts atoms (λ a b. compared atoms (pos 0) b.0 a.0) (λ m n. is_at_most n m)
    (compared_down v sorts atoms s (pos 0) is_at_most at_most_by_difference) arguments good) l h))
applied_says v sorts atoms s symbol.greater arguments good l h =
    ap (λ b. means_truth b)
    (sym (all_say v atoms s.truth (of_neighbours (λ a b. compared atoms (neg_ℤ (pos 1)) b.0 a.0) arguments)
    (is_chain (λ m n. is_less n m) (flat_map number_in (M v arguments)))
    (numbers_say v sorts atoms (λ a b. compared atoms (neg_ℤ (pos 1)) b.0 a.0) (λ m n. is_less n m)
    (compared_down v sorts atoms s (neg_ℤ (pos 1)) is_less less_by_difference) arguments good) l h))
applied_says v sorts atoms s symbol.str_in_re arguments good l h = member_of_says v sorts atoms s arguments good l h
applied_says v sorts atoms s symbol.str_prefixof arguments good l h =
    of_terms_says v sorts atoms (affix atoms beginning_with prefixes) is_prefix
    (affix_says v sorts atoms s beginning_with prefixes is_prefix
    (record { wholes_have = s.affixes.beginnings; parts_have = s.affixes.prefixes_of })) arguments good l h
applied_says v sorts atoms s symbol.str_suffixof arguments good l h =
    of_terms_says v sorts atoms (affix atoms ending_with suffixes) is_suffix
    (affix_says v sorts atoms s ending_with suffixes is_suffix
    (record { wholes_have = s.affixes.endings; parts_have = s.affixes.suffixes_of })) arguments good l h
applied_says v sorts atoms s symbol.str_contains arguments good l h =
    of_terms_says v sorts atoms (λ whole part. affix atoms containing factors part whole) (λ t s. is_inside s t)
    (λ whole part fits_whole fits_part l h. turned v atoms is_inside whole part l
    (affix_says v sorts atoms s containing factors is_inside
    (record { wholes_have = s.affixes.holders; parts_have = s.affixes.factors_of }) part whole fits_part fits_whole
    l h)) arguments good l h
applied_says v sorts atoms s _ arguments good l h = absurd (Prim.cc (h))

-- Terms.

truth_of_value : (x : Value) → is_of boolean x ≡ true
    → meaning_of_value x ≡ means_truth (elim x [ Text w ↦ false | Int n ↦ false | Truth b ↦ b ])
truth_of_value (Truth b) h = refl
truth_of_value (Text w) h = absurd (Prim.cc (h))
truth_of_value (Int n) h = absurd (Prim.cc (h))

meanings_of_arguments : (v : Valuation) (atoms : List Atom) (terms : Terms)
    → meanings_of v terms ≡ M v (arguments_of atoms terms)
meanings_of_arguments v atoms no_terms = refl
meanings_of_arguments v atoms (with_term term terms) =
    ap (λ ms. meaning_of v term ∷ ms) (meanings_of_arguments v atoms terms)

mutual
  term_says : (v : Valuation) (sorts : List Sort) (atoms : List Atom) → Setting v sorts atoms → (t : Term)
      → fits_sorts sorts t ≡ true → (l : Lit) → translation atoms t ≡ Some l
      → meaning_of v t ≡ means_truth (T v atoms l)
  term_says v sorts atoms s (constant serial boolean) fits l h =
      truth_of_value (value_in v serial boolean) (declared_value v sorts serial boolean s.sorted fits)
      ∙ ap (λ b. means_truth b) (sym (s.truth (bool_atom serial) l h))
  term_says v sorts atoms s (constant serial integer) fits l h = absurd (Prim.cc (h))
  term_says v sorts atoms s (constant serial text) fits l h = absurd (Prim.cc (h))
  term_says v sorts atoms s (constant serial reglan) fits l h = absurd (Prim.cc (h))
  term_says v sorts atoms s (word w) fits l h = absurd (Prim.cc (h))
  term_says v sorts atoms s (numeral n) fits l h = absurd (Prim.cc (h))
  term_says v sorts atoms s (apply f terms) fits l h =
      ap (meaning.applied f) (meanings_of_arguments v atoms terms)
      ∙ applied_says v sorts atoms s f (arguments_of atoms terms) (terms_say v sorts atoms s terms fits) l h
  term_says v sorts atoms s (parameter place sort) fits l h = absurd (Prim.cc (h))

  terms_say : (v : Valuation) (sorts : List Sort) (atoms : List Atom) → Setting v sorts atoms → (terms : Terms)
      → all_fit sorts terms ≡ true → AllTrueTo v sorts atoms (arguments_of atoms terms)
  terms_say v sorts atoms s no_terms fits = tt
  terms_say v sorts atoms s (with_term term terms) fits =
      let parts = and_parts (fits_sorts sorts term) (all_fit sorts terms) fits in (
        record { fits = parts.0; says = term_says v sorts atoms s term parts.0 },
        terms_say v sorts atoms s terms parts.1,
      )

pub translation_is_true : PiecesKeepWord → SumsKeepNumber → NormalHasTermsWords → AffixesHaveTheirWords
    → OrderTellsApart → TranslationHolds
translation_is_true pieces sums normals affixes apart v sorts atoms t l table sorted fits h =
    let s : Setting v sorts atoms = record {
      truth = positive_holds apart v atoms table;
      sorted = sorted;
      pieces = pieces;
      sums = sums;
      normals = normals;
      affixes = affixes;
    } in
    sym (and-true (T v atoms l))
    ∙ sym (ap (λ m. meaning.all_true (truth_in m)) (term_says v sorts atoms s t fits l h))
