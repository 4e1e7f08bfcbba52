-- What is made over a table of atoms is the same over a larger table.
use Rattle.std.proofs.Common.{◌≡◌, ℕ, ◌+◌, Bool, true, false, cond, if◌then◌else◌, List, [], ◌∷◌, ◌++◌, map, Option, Some, None, option_map, option_and_then, refl, sym, ap, ◌∙◌}
use Rattle.std.specs.Prelude.{ℤ, pos, ◌-ℤ◌, neg_ℤ, int_le}
use Rattle.std.specs.List.{position_from}
use Rattle.std.specs.Ordering.{is_gt}
use Rattle.sb_lit.specs.declared.clause.Lit.{Lit}
use Rattle.sb_lit.specs.Clauses.{negation, literal_order}
use Rattle.sb_lang.specs.Regex.{Regex}
use Rattle.sb_lang.specs.Normal.{word_regex}
use Rattle.sb_lang.specs.Affixes.{beginning_with, ending_with, containing, prefixes, suffixes, factors}
use Rattle.sb_meaning.specs.Terms.{Sort, boolean, integer, text, reglan, Symbol, Term, Terms, constant, word, numeral, apply, parameter, no_terms, with_term, terms_in}
use Rattle.sb_meaning.specs.Terms as symbol
use Rattle.sb_meaning.specs.Sorts.{sort_of}
use Rattle.sb_rulebook.specs.Atoms.{Atom, bool_atom, in_atom, le_atom, sum_atom, and_atom, iff_atom, is_same_atom, number_of, is_one}
use Rattle.sb_rulebook.specs.Parts.{together, regex_of}
use Rattle.sb_rulebook.specs.Translation.{positive, negated, in_order, conjunction_of, conjunction, disjunction, implication, equivalence, implications, exclusive_from, exclusive, choice, bound, difference_bound, compared, membership, word_equality, affix, number_equality, truth_equality, Argument, equality, of_neighbours, of_pairs, all_true, only_one, member_of, of_terms, of_literals, applied, translation, arguments_of}
use Rattle.sb_script.specs.Sums.{Summand, Sum, subtracted, if_small, sum_of}
use Rattle.sb_script.specs.Pieces.{single_pieces, ground_word, whole_word}

-- what is made over a table is the same over each larger one
pub record Stays {A : Type 0} (make : List Atom → Option A) : Type 0 where
  pub stay : (atoms more : List Atom) (x : A) → make atoms ≡ Some x → make (atoms ++ more) ≡ Some x

-- what all of a list have is the same
pub record AllStay {A : Type 0} (make : List Atom → List (Option A)) : Type 0 where
  pub all_stay : Stays (λ atoms. together (make atoms))

-- Parts.

pub given_stays : {A : Type 0} (o : Option A) → Stays (λ atoms. o)
given_stays o = record { stay = λ atoms more x h. h }

pub same_stays : {A : Type 0} {other : List Atom → Option A} (make : List Atom → Option A)
    → ((atoms : List Atom) → make atoms ≡ other atoms) → Stays other → Stays make
same_stays make same s = record {
  stay = λ atoms more x h. same (atoms ++ more) ∙ s.stay atoms more x (sym (same atoms) ∙ h);
}

pub then_stays : {A B : Type 0} {make : List Atom → Option A} (f : A → List Atom → Option B) → Stays make
    → ((x : A) → Stays (f x)) → Stays (λ atoms. option_and_then (λ x. f x atoms) (make atoms))
then_stays {A} {B} {make} f s k = record { stay = λ atoms more y h. step atoms more y (make atoms) refl h }
  where
    step : (atoms more : List Atom) (y : B) (o : Option A) → make atoms ≡ o
        → option_and_then (λ x. f x atoms) o ≡ Some y
        → option_and_then (λ x. f x (atoms ++ more)) (make (atoms ++ more)) ≡ Some y
    step atoms more y None e h = absurd (Prim.cc (h))
    step atoms more y (Some x) e h =
        ap (option_and_then (λ x. f x (atoms ++ more))) (s.stay atoms more x e) ∙ (k x).stay atoms more y h

pub map_stays : {A B : Type 0} {make : List Atom → Option A} (f : A → B) → Stays make
    → Stays (λ atoms. option_map f (make atoms))
map_stays {A} {B} {make} f s = record { stay = λ atoms more y h. step atoms more y (make atoms) refl h }
  where
    step : (atoms more : List Atom) (y : B) (o : Option A) → make atoms ≡ o → option_map f o ≡ Some y
        → option_map f (make (atoms ++ more)) ≡ Some y
    step atoms more y None e h = absurd (Prim.cc (h))
    step atoms more y (Some x) e h = ap (option_map f) (s.stay atoms more x e) ∙ h

pub either_stays : {A : Type 0} {make other : List Atom → Option A} (b : Bool) → Stays make → Stays other
    → Stays (λ atoms. if b then make atoms else other atoms)
either_stays true s t = s
either_stays false s t = t

pub together_one : {A : Type 0} (o : Option A) (os : List (Option A))
    → together (o ∷ os) ≡ option_and_then (λ x. option_map (λ xs. x ∷ xs) (together os)) o
together_one None os = refl
together_one (Some x) os = refl

abbrev pub no_literals : List Atom → List (Option Lit)
no_literals atoms = []

pub none_stay : AllStay no_literals
none_stay = record { all_stay = given_stays (Some []) }

pub one_stays : {A : Type 0} {make : List Atom → Option A} {others : List Atom → List (Option A)} → Stays make
    → AllStay others → AllStay (λ atoms. make atoms ∷ others atoms)
one_stays {A} {make} {others} s t = record {
  all_stay = same_stays (λ atoms. together (make atoms ∷ others atoms))
      (λ atoms. together_one (make atoms) (others atoms))
      (then_stays (λ x atoms. option_map (λ xs. x ∷ xs) (together (others atoms))) s
      (λ x. map_stays (λ xs. x ∷ xs) t.all_stay));
}

-- Literals.

position_stays : {A : Type 0} (test : A → Bool) (i n : ℕ) (xs ys : List A) → position_from test i xs ≡ Some n
    → position_from test i (xs ++ ys) ≡ Some n
position_stays test i n [] ys h = absurd (Prim.cc (h))
position_stays test i n (x ∷ xs) ys h = step (test x) h (position_stays test (i + 1) n xs ys)
  where
    step : (b : Bool) → cond b (Some i) (position_from test (i + 1) xs) ≡ Some n
        → (position_from test (i + 1) xs ≡ Some n → position_from test (i + 1) (xs ++ ys) ≡ Some n)
        → cond b (Some i) (position_from test (i + 1) (xs ++ ys)) ≡ Some n
    step true h later = h
    step false h later = later h

pub positive_stays : (atom : Atom) → Stays (λ atoms. positive atoms atom)
positive_stays atom = map_stays (λ n. record { atom = n; positive = true }) number
  where
    number : Stays (λ atoms. number_of atoms atom)
    number = record { stay = λ atoms more n h. position_stays (is_same_atom atom) 0 n atoms more h }

pub negated_stays : {make : List Atom → Option Lit} → Stays make → Stays (λ atoms. negated (make atoms))
negated_stays s = map_stays negation s

conjunction_of_stays : (ls : List Lit) → Stays (λ atoms. conjunction_of atoms ls)
conjunction_of_stays [] = positive_stays (and_atom [])
conjunction_of_stays (l ∷ []) = given_stays (Some l)
conjunction_of_stays (l ∷ m ∷ ls) = positive_stays (and_atom (l ∷ m ∷ ls))

pub conjunction_stays : (ls : List Lit) → Stays (λ atoms. conjunction atoms ls)
conjunction_stays ls = conjunction_of_stays (in_order ls)

pub disjunction_stays : (ls : List Lit) → Stays (λ atoms. disjunction atoms ls)
disjunction_stays ls = negated_stays (conjunction_stays (map negation ls))

pub implication_stays : (l m : Lit) → Stays (λ atoms. implication atoms l m)
implication_stays l m = negated_stays (conjunction_stays (l ∷ negation m ∷ []))

pub equivalence_stays : (l m : Lit) → Stays (λ atoms. equivalence atoms l m)
equivalence_stays l m = positive_stays (if is_gt (literal_order l m) then iff_atom m l else iff_atom l m)

pub implications_stay : (ls : List Lit) → Stays (λ atoms. implications atoms ls)
implications_stay [] = given_stays None
implications_stay (l ∷ []) = given_stays (Some l)
implications_stay (l ∷ m ∷ ls) =
    then_stays (λ k atoms. implication atoms l k) (implications_stay (m ∷ ls)) (implication_stays l)

pub exclusive_from_stays : (l : Lit) (ls : List Lit) → Stays (λ atoms. exclusive_from atoms l ls)
exclusive_from_stays l [] = given_stays (Some l)
exclusive_from_stays l (m ∷ ms) =
    then_stays (λ k atoms. exclusive_from atoms k ms) (negated_stays (equivalence_stays l m))
    (λ k. exclusive_from_stays k ms)

pub exclusive_stays : (ls : List Lit) → Stays (λ atoms. exclusive atoms ls)
exclusive_stays [] = given_stays None
exclusive_stays (l ∷ ls) = exclusive_from_stays l ls

-- both are true
pub both_stay : {make other : List Atom → Option Lit} → Stays make → Stays other
    → Stays (λ atoms. all_true atoms (make atoms ∷ other atoms ∷ []))
both_stay s t =
    then_stays (λ ls atoms. conjunction atoms ls) (one_stays s (one_stays t none_stay)).all_stay conjunction_stays

pub choice_stays : (ls : List Lit) → Stays (λ atoms. choice atoms ls)
choice_stays (c ∷ l ∷ m ∷ []) = both_stay (implication_stays c l) (implication_stays (negation c) m)
choice_stays [] = given_stays None
choice_stays (c ∷ []) = given_stays None
choice_stays (c ∷ l ∷ []) = given_stays None
choice_stays (c ∷ l ∷ m ∷ n ∷ ls) = given_stays None

-- Numbers and words.

pub bound_stays : (ss : List Summand) (k : ℤ) → Stays (λ atoms. bound atoms ss k)
bound_stays [] k = either_stays (int_le (pos 0) k) (conjunction_stays []) (negated_stays (conjunction_stays []))
bound_stays (s ∷ []) k =
    either_stays (is_one s.0) (positive_stays (le_atom s.1 k))
    (either_stays (is_one (neg_ℤ s.0)) (negated_stays (positive_stays (le_atom s.1 (neg_ℤ k -ℤ pos 1))))
    (positive_stays (sum_atom k (s ∷ []))))
bound_stays (s ∷ t ∷ ss) k = positive_stays (sum_atom k (s ∷ t ∷ ss))

pub difference_bound_stays : (k : ℤ) (s t : Sum) → Stays (λ atoms. difference_bound atoms k s t)
difference_bound_stays k s t =
    then_stays (λ d atoms. bound atoms d.summands (k -ℤ d.constant)) (given_stays (if_small (subtracted s t)))
    (λ d. bound_stays d.summands (k -ℤ d.constant))

pub compared_stays : (k : ℤ) (a b : Term) → Stays (λ atoms. compared atoms k a b)
compared_stays k a b =
    then_stays (λ s atoms. option_and_then (difference_bound atoms k s) (sum_of b)) (given_stays (sum_of a))
    (λ s. then_stays (λ t atoms. difference_bound atoms k s t) (given_stays (sum_of b)) (difference_bound_stays k s))

pub membership_stays : (t : Term) (regex : Option Regex) → Stays (λ atoms. membership atoms t regex)
membership_stays t regex =
    then_stays (λ r atoms. option_and_then (λ ps. positive atoms (in_atom ps r)) (single_pieces t))
    (given_stays regex)
    (λ r. then_stays (λ ps atoms. positive atoms (in_atom ps r)) (given_stays (single_pieces t))
    (λ ps. positive_stays (in_atom ps r)))

pub number_equality_stays : (a b : Term) → Stays (λ atoms. number_equality atoms a b)
number_equality_stays a b = both_stay (compared_stays (pos 0) a b) (compared_stays (pos 0) b a)

pub word_equality_stays : (a b : Term) → Stays (λ atoms. word_equality atoms a b)
word_equality_stays a b = step (ground_word b)
  where
    step : (o : Option (List ℕ)) → Stays (λ atoms. elim o as (λ _. Option Lit) [
      | Some w ↦ membership atoms a (Some (word_regex w))
      | None ↦ membership atoms b (option_map word_regex (ground_word a))
    ])
    step (Some w) = membership_stays a (Some (word_regex w))
    step None = membership_stays b (option_map word_regex (ground_word a))

pub affix_stays : (holders parts : List ℕ → Regex) (part whole : Term)
    → Stays (λ atoms. affix atoms holders parts part whole)
affix_stays holders parts part whole = step (ground_word part)
  where
    step : (o : Option (List ℕ)) → Stays (λ atoms. elim o as (λ _. Option Lit) [
      | Some w ↦ membership atoms whole (Some (holders w))
      | None ↦ membership atoms part (option_map parts (whole_word whole))
    ])
    step (Some w) = membership_stays whole (Some (holders w))
    step None = membership_stays part (option_map parts (whole_word whole))

-- Arguments.

-- a term with its literal
abbrev pub argument : List Atom → Term → Argument
argument atoms t = (t, translation atoms t)

pub arguments_are : (atoms : List Atom) (terms : Terms)
    → arguments_of atoms terms ≡ map (argument atoms) (terms_in terms)
arguments_are atoms no_terms = refl
arguments_are atoms (with_term t terms) = ap (λ rest. argument atoms t ∷ rest) (arguments_are atoms terms)

abbrev pub TermStays : Term → Type 0
TermStays t = Stays (λ atoms. translation atoms t)

abbrev pub TermsStay : List Term → Type 0
TermsStay [] = Unit {0}
TermsStay (t ∷ ts) = TermStays t × TermsStay ts

-- a relation of arguments
abbrev pub Relation : Type 0
Relation = List Atom → Argument → Argument → Option Lit

abbrev pub PairStays : Relation → Term → Term → Type 0
PairStays relation a b = Stays (λ atoms. relation atoms (argument atoms a) (argument atoms b))

pub literals_stay : (ts : List Term) → TermsStay ts → AllStay (λ atoms. map (λ a. a.1) (map (argument atoms) ts))
literals_stay [] all = none_stay
literals_stay (t ∷ ts) all = one_stays all.0 (literals_stay ts all.1)

pub neighbours_stay : (relation : Relation) → ((a b : Term) → TermStays a → TermStays b → PairStays relation a b)
    → (ts : List Term) → TermsStay ts → AllStay (λ atoms. of_neighbours (relation atoms) (map (argument atoms) ts))
neighbours_stay relation stay [] all = none_stay
neighbours_stay relation stay (t ∷ []) all = none_stay
neighbours_stay relation stay (t ∷ u ∷ ts) all =
    one_stays (stay t u all.0 all.1.0) (neighbours_stay relation stay (u ∷ ts) all.1)

with_each_stay : (relation : Relation) → ((a b : Term) → TermStays a → TermStays b → PairStays relation a b)
    → (t : Term) → TermStays t → {others : List Atom → List (Option Lit)} → AllStay others
    → (ts : List Term) → TermsStay ts
    → AllStay (λ atoms. map (relation atoms (argument atoms t)) (map (argument atoms) ts) ++ others atoms)
with_each_stay relation stay t here more [] all = more
with_each_stay relation stay t here more (u ∷ us) all =
    one_stays (stay t u here all.0) (with_each_stay relation stay t here more us all.1)

pub pairs_stay : (relation : Relation) → ((a b : Term) → TermStays a → TermStays b → PairStays relation a b)
    → (ts : List Term) → TermsStay ts → AllStay (λ atoms. of_pairs (relation atoms) (map (argument atoms) ts))
pairs_stay relation stay [] all = none_stay
pairs_stay relation stay (t ∷ ts) all =
    with_each_stay relation stay t all.0 (pairs_stay relation stay ts all.1) ts all.1

-- the literal of an equality by the sort of the first
abbrev pub equality_by : Sort → Relation
equality_by k atoms a b = elim k [
  | boolean ↦ truth_equality atoms a.1 b.1
  | integer ↦ number_equality atoms a.0 b.0
  | text ↦ word_equality atoms a.0 b.0
  | reglan ↦ None
]

truth_equality_stays : (a b : Term) → TermStays a → TermStays b
    → Stays (λ atoms. truth_equality atoms (translation atoms a) (translation atoms b))
truth_equality_stays a b s t =
    then_stays (λ l atoms. option_and_then (equivalence atoms l) (translation atoms b)) s
    (λ l. then_stays (λ m atoms. equivalence atoms l m) t (equivalence_stays l))

equality_by_stays : (k : Sort) (a b : Term) → TermStays a → TermStays b → PairStays (equality_by k) a b
equality_by_stays boolean a b s t = truth_equality_stays a b s t
equality_by_stays integer a b s t = number_equality_stays a b
equality_by_stays text a b s t = word_equality_stays a b
equality_by_stays reglan a b s t = given_stays None

pub equality_stays : (a b : Term) → TermStays a → TermStays b → PairStays equality a b
equality_stays a b = equality_by_stays (sort_of a) a b

-- Symbols.

pub all_true_stays : {make : List Atom → List (Option Lit)} → AllStay make
    → Stays (λ atoms. all_true atoms (make atoms))
all_true_stays s = then_stays (λ ls atoms. conjunction atoms ls) s.all_stay conjunction_stays

of_literals_stays : (f : List Lit → List Atom → Option Lit) → ((ls : List Lit) → Stays (f ls)) → (ts : List Term)
    → TermsStay ts → Stays (λ atoms. of_literals (λ ls. f ls atoms) (map (argument atoms) ts))
of_literals_stays f stay ts all = then_stays f (literals_stay ts all).all_stay stay

member_of_stays : (ts : List Term) → Stays (λ atoms. member_of atoms (map (argument atoms) ts))
member_of_stays (t ∷ R ∷ []) = membership_stays t (regex_of R)
member_of_stays [] = given_stays None
member_of_stays (t ∷ []) = given_stays None
member_of_stays (t ∷ R ∷ u ∷ ts) = given_stays None

of_terms_stays : (make : List Atom → Term → Term → Option Lit) → ((s t : Term) → Stays (λ atoms. make atoms s t))
    → (ts : List Term) → Stays (λ atoms. of_terms (make atoms) (map (argument atoms) ts))
of_terms_stays make stay (s ∷ t ∷ []) = stay s t
of_terms_stays make stay [] = given_stays None
of_terms_stays make stay (s ∷ []) = given_stays None
of_terms_stays make stay (s ∷ t ∷ u ∷ ts) = given_stays None

applied_stays : (s : Symbol) (ts : List Term) → TermsStay ts
    → Stays (λ atoms. applied atoms s (map (argument atoms) ts))
applied_stays symbol.core_true ts all = conjunction_stays []
applied_stays symbol.core_false ts all = negated_stays (conjunction_stays [])
applied_stays symbol.core_not ts all =
    negated_stays (of_literals_stays (λ ls atoms. only_one ls) (λ ls. given_stays (only_one ls)) ts all)
applied_stays symbol.core_and ts all = of_literals_stays (λ ls atoms. conjunction atoms ls) conjunction_stays ts all
applied_stays symbol.core_or ts all = of_literals_stays (λ ls atoms. disjunction atoms ls) disjunction_stays ts all
applied_stays symbol.core_implies ts all =
    of_literals_stays (λ ls atoms. implications atoms ls) implications_stay ts all
applied_stays symbol.core_xor ts all = of_literals_stays (λ ls atoms. exclusive atoms ls) exclusive_stays ts all
applied_stays symbol.core_ite ts all = of_literals_stays (λ ls atoms. choice atoms ls) choice_stays ts all
applied_stays symbol.core_equal ts all = all_true_stays (neighbours_stay equality equality_stays ts all)
applied_stays symbol.core_distinct ts all =
    all_true_stays (pairs_stay (λ atoms a b. negated (equality atoms a b))
    (λ a b s t. negated_stays (equality_stays a b s t)) ts all)
applied_stays symbol.at_most ts all =
    all_true_stays (neighbours_stay (λ atoms a b. compared atoms (pos 0) a.0 b.0)
    (λ a b s t. compared_stays (pos 0) a b) ts all)
applied_stays symbol.less ts all =
    all_true_stays (neighbours_stay (λ atoms a b. compared atoms (neg_ℤ (pos 1)) a.0 b.0)
    (λ a b s t. compared_stays (neg_ℤ (pos 1)) a b) ts all)
applied_stays symbol.at_least ts all =
    all_true_stays (neighbours_stay (λ atoms a b. compared atoms (pos 0) b.0 a.0)
    (λ a b s t. compared_stays (pos 0) b a) ts all)
applied_stays symbol.greater ts all =
    all_true_stays (neighbours_stay (λ atoms a b. compared atoms (neg_ℤ (pos 1)) b.0 a.0)
    (λ a b s t. compared_stays (neg_ℤ (pos 1)) b a) ts all)
applied_stays symbol.str_in_re ts all = member_of_stays ts
applied_stays symbol.str_prefixof ts all =
    of_terms_stays (λ atoms part whole. affix atoms beginning_with prefixes part whole)
    (affix_stays beginning_with prefixes) ts
applied_stays symbol.str_suffixof ts all =
    of_terms_stays (λ atoms part whole. affix atoms ending_with suffixes part whole) (affix_stays ending_with suffixes)
    ts
applied_stays symbol.str_contains ts all =
    of_terms_stays (λ atoms whole part. affix atoms containing factors part whole)
    (λ whole part. affix_stays containing factors part whole) ts
applied_stays _ ts all = given_stays None

-- Terms.

mutual
  pub term_stays : (t : Term) → TermStays t
  term_stays (constant serial boolean) = positive_stays (bool_atom serial)
  term_stays (constant serial integer) = given_stays None
  term_stays (constant serial text) = given_stays None
  term_stays (constant serial reglan) = given_stays None
  term_stays (word w) = given_stays None
  term_stays (numeral n) = given_stays None
  term_stays (apply s terms) =
      same_stays (λ atoms. applied atoms s (arguments_of atoms terms))
      (λ atoms. ap (applied atoms s) (arguments_are atoms terms))
      (applied_stays s (terms_in terms) (terms_stay terms))
  term_stays (parameter place sort) = given_stays None

  pub terms_stay : (terms : Terms) → TermsStay (terms_in terms)
  terms_stay no_terms = tt
  terms_stay (with_term t terms) = (term_stays t, terms_stay terms)

pub list_stays : (ts : List Term) → TermsStay ts
list_stays [] = tt
list_stays (t ∷ ts) = (term_stays t, list_stays ts)
