-- Terms of Boolean structure by their shapes.
use Rattle.std.proofs.Common.{◌≡◌, ℕ, suc, ◌-◌, ◌<◌, ◌≤◌, ◌==◌, Bool, true, false, ◌&&◌, List, [], ◌∷◌, length, take, drop, get_or, Some, refl, sym, ap, ap₂, ◌∙◌, arith}
use Rattle.std.specs.List.{list_all}
use Rattle.std.proofs.lemmas.Bool.{false≢true}
use Rattle.std.proofs.lemmas.Bool.Decides.{nat_tests}
use Rattle.std.proofs.lemmas.List.{take_all}
use Rattle.sb_meaning.specs.Terms.{Sort, boolean, integer, text, reglan, Symbol, Term, Terms, constant, word, numeral, apply, parameter, no_terms, with_term, terms_in, terms_of}
use Rattle.sb_meaning.specs.Terms as symbol
use Rattle.sb_meaning.specs.Sorts.{sort_of}
use Rattle.sb_script.specs.Brought.{asked, is_regex, is_membership, is_structure, are_structure}
use Rattle.sb_script.specs.Fragment.{fits, of_two, is_affix_pair, sort_of_first}
use Rattle.sb_script.proofs.CallerLemmas.{IsAsking, a_membership, a_word_behind, a_word_in_front, asked_looks}
use Rattle.sb_term.specs.Numbered.{term_at, terms_at}
use Rattle.sb_fragment.specs.declared.shape.AffixKind.{AffixKind}
use Rattle.sb_fragment.specs.declared.shape.AffixKind.TheVariants as kind
use Rattle.sb_fragment.specs.declared.shape.Connective.{Connective}
use Rattle.sb_fragment.specs.declared.shape.Connective.TheVariants as connective
use Rattle.sb_fragment.specs.declared.shape.Shape.TheVariants as shape
use Rattle.sb_fragment.specs.Shapes.{IsApplied, IsComparison, IsConnected, IsShape, parts_of, truth_of, comparison_of, affix}
use Rattle.sb_fragment.proofs.AskedFacts.{asked_membership}

pub terms_in_of : (ts : List Term) → terms_in (terms_of ts) ≡ ts
terms_in_of [] = refl
terms_in_of (t ∷ ts) = ap (λ us. t ∷ us) (terms_in_of ts)

pub structure_of_all : (terms : Terms) → are_structure terms ≡ list_all is_structure (terms_in terms)
structure_of_all no_terms = refl
structure_of_all (with_term t terms) = ap (λ b. is_structure t && b) (structure_of_all terms)

pub applied_with : (s : Symbol) (terms : Terms) → IsApplied (apply s terms) s
applied_with s terms = record { terms = terms; is = refl }

-- Comparisons.

-- by the sort of the first
abbrev by_sort : Sort → Bool → Bool
by_sort k each_is = elim k [
  | boolean ↦ each_is
  | integer ↦ false
  | text ↦ true
  | reglan ↦ false
]

structure_by : (distinct : Bool) (terms : Terms) (k : Sort) → sort_of_first (terms_in terms) ≡ k
    → is_structure (apply (comparison_of distinct) terms) ≡ by_sort k (are_structure terms)
structure_by true no_terms k e = ap (λ s. by_sort s true) e
structure_by false no_terms k e = ap (λ s. by_sort s true) e
structure_by true (with_term t terms) k e = ap (λ s. by_sort s (are_structure (with_term t terms))) e
structure_by false (with_term t terms) k e = ap (λ s. by_sort s (are_structure (with_term t terms))) e

compared_structure : (t : Term) (distinct : Bool) → IsComparison t distinct boolean
    → is_structure t ≡ list_all is_structure (parts_of t)
compared_structure t true h = rw h.is (structure_by true h.terms boolean h.first ∙ structure_of_all h.terms)
compared_structure t false h = rw h.is (structure_by false h.terms boolean h.first ∙ structure_of_all h.terms)

-- By shapes.

pub always_structure : (t : Term) (truth : Bool) → IsApplied t (truth_of truth)
    → is_structure t ≡ list_all is_structure (parts_of t)
always_structure t true h = rw h.is (structure_of_all h.terms)
always_structure t false h = rw h.is (structure_of_all h.terms)

pub alone_structure : (t : Term) → IsShape t shape.Alone → is_structure t ≡ list_all is_structure (parts_of t)
alone_structure t h = compared_structure t h.0 h.1

pub connected_structure : (t : Term) (c : Connective) → IsConnected t c
    → is_structure t ≡ list_all is_structure (parts_of t)
connected_structure t connective.Not h = rw h.is (structure_of_all h.terms)
connected_structure t connective.And h = rw h.is (structure_of_all h.terms)
connected_structure t connective.Or h = rw h.is (structure_of_all h.terms)
connected_structure t connective.Implies h = rw h.is (structure_of_all h.terms)
connected_structure t connective.Xor h = rw h.is (structure_of_all h.terms)
connected_structure t connective.Ite h = rw h.is (structure_of_all h.terms)
connected_structure t (connective.Compare distinct) h = compared_structure t distinct h.0

pub words_structure : (t : Term) (distinct : Bool) → IsShape t (shape.Words distinct) → is_structure t ≡ true
words_structure t true h = rw h.is (structure_by true h.terms text h.first)
words_structure t false h = rw h.is (structure_by false h.terms text h.first)

pub affix_structure : (t : Term) (k : AffixKind) → IsShape t (shape.Affix k) → is_structure t ≡ true
affix_structure t kind.Prefix h = rw h.is refl
affix_structure t kind.Suffix h = rw h.is refl
affix_structure t kind.Factor h = rw h.is refl

-- Comparisons of terms by number.

pub first_sort : (distinct : Bool) (k : Sort) (ts : List Term) → sort_of_first ts ≡ k
    → IsComparison (apply (comparison_of distinct) (terms_of ts)) distinct k
first_sort distinct k ts e =
    record { terms = terms_of ts; is = refl; first = ap sort_of_first (terms_in_of ts) ∙ e }

numbered_first : (ts : List Term) (is : List ℕ) (first : ℕ) (k : Sort) → 1 ≤ length is → first ≡ get_or is 0 first
    → sort_of (term_at ts first) ≡ k → sort_of_first (terms_at ts is) ≡ k
numbered_first ts [] first k le e sort = absurd (omega (arith, le))
numbered_first ts (i ∷ is) first k le e sort = ap (λ j. sort_of (term_at ts j)) (sym e) ∙ sort

length_at : (ts : List Term) (is : List ℕ) → length (terms_in (terms_of (terms_at ts is))) ≡ length is
length_at ts [] = refl
length_at ts (i ∷ is) = ap suc (length_at ts is)

pub none_alone : (distinct : Bool) (ts : List Term) (is : List ℕ) → length is < 1
    → IsShape (apply (comparison_of distinct) (terms_of (terms_at ts is))) shape.Alone
none_alone distinct ts [] few = (distinct, first_sort distinct boolean [] refl, omega arith)
none_alone distinct ts (i ∷ is) few = absurd (omega (arith, few))

one_up : (is : List ℕ) → 1 ≤ length is → true ≡ (length (take (length is - 1) (drop 1 is)) == 0) → length is < 2
one_up [] one e = absurd (omega (arith, one))
one_up (i ∷ []) one e = omega arith
one_up (i ∷ j ∷ is) one e =
    let all = take_all (length (i ∷ j ∷ is) - 1) (j ∷ is) (omega arith) in
    let none : true ≡ (length (j ∷ is) == 0) = e ∙ ap (λ js. length js == 0) all in
    absurd (grind (arith, nat_tests, none))

two_up : (is : List ℕ) → 1 ≤ length is → false ≡ (length (take (length is - 1) (drop 1 is)) == 0) → 2 ≤ length is
two_up [] one e = absurd (omega (arith, one))
two_up (i ∷ []) one e = absurd (false≢true e)
two_up (i ∷ j ∷ is) one e = omega arith

pub one_alone : (distinct : Bool) (ts : List Term) (is : List ℕ) (first : ℕ) → 1 ≤ length is
    → first ≡ get_or is 0 first → sort_of (term_at ts first) ≡ boolean
    → true ≡ (length (take (length is - 1) (drop 1 is)) == 0)
    → IsShape (apply (comparison_of distinct) (terms_of (terms_at ts is))) shape.Alone
one_alone distinct ts is first le e sort few =
    let l = length_at ts is in
    let m = one_up is le few in (
      distinct,
      first_sort distinct boolean (terms_at ts is) (numbered_first ts is first boolean le e sort),
      omega (arith, l, m),
    )

pub some_compared : (distinct : Bool) (ts : List Term) (is : List ℕ) (first : ℕ) → 1 ≤ length is
    → first ≡ get_or is 0 first → sort_of (term_at ts first) ≡ boolean
    → false ≡ (length (take (length is - 1) (drop 1 is)) == 0)
    → IsShape (apply (comparison_of distinct) (terms_of (terms_at ts is)))
    (shape.Connected (connective.Compare distinct))
some_compared distinct ts is first le e sort more =
    let l = length_at ts is in
    let m = two_up is le more in
    (first_sort distinct boolean (terms_at ts is) (numbered_first ts is first boolean le e sort), omega (arith, l, m))

pub words_compared : (distinct : Bool) (ts : List Term) (is : List ℕ) (first : ℕ) → 1 ≤ length is
    → first ≡ get_or is 0 first → sort_of (term_at ts first) ≡ text
    → IsShape (apply (comparison_of distinct) (terms_of (terms_at ts is))) (shape.Words distinct)
words_compared distinct ts is first le e sort =
    first_sort distinct text (terms_at ts is) (numbered_first ts is first text le e sort)

-- Memberships.

pub member_of_two : (ts : List Term) (is : List ℕ) → length is ≡ 2
    → IsShape (apply symbol.str_in_re (terms_of (terms_at ts is))) shape.Member
member_of_two ts [] e = absurd (omega (arith, e))
member_of_two ts (i ∷ []) e = absurd (omega (arith, e))
member_of_two ts (i ∷ j ∷ []) e = refl
member_of_two ts (i ∷ j ∷ k ∷ is) e = absurd (omega (arith, e))

pub member_of_others : (ts : List Term) (is : List ℕ) → (length is ≡ 2 → ⊥)
    → IsShape (apply symbol.str_in_re (terms_of (terms_at ts is))) shape.Other
member_of_others ts [] other = refl
member_of_others ts (i ∷ []) other = refl
member_of_others ts (i ∷ j ∷ []) other = absurd (other refl)
member_of_others ts (i ∷ j ∷ k ∷ is) other = refl

-- A part and the whole of which it is said to be one, by their numbers.

-- the term is its symbol with its arguments
applied_to : (ts : List Term) (t : Term) (s : Symbol) (is : List ℕ) → IsApplied t s → terms_at ts is ≡ parts_of t
    → t ≡ apply s (terms_of (terms_at ts is))
applied_to ts t s is h same =
    h.is
    ∙ ap (apply s) (sym (of_in h.terms) ∙ ap terms_of (sym (same ∙ ap parts_of h.is)))
  where
    of_in : (us : Terms) → terms_of (terms_in us) ≡ us
    of_in no_terms = refl
    of_in (with_term u us) = ap (λ vs. with_term u vs) (of_in us)

pub two_applied : (ts : List Term) (t : Term) (s : Symbol) (is : List ℕ) (first second : ℕ) → IsApplied t s
    → terms_at ts is ≡ parts_of t → 2 ≤ length is → length is < 3 → first ≡ get_or is 0 first
    → second ≡ get_or is 1 second
    → t ≡ apply s (with_term (term_at ts first) (with_term (term_at ts second) no_terms))
two_applied ts t s [] first second h same low high at_first at_second = absurd (omega (arith, low))
two_applied ts t s (i ∷ []) first second h same low high at_first at_second = absurd (omega (arith, low))
two_applied ts t s (i ∷ j ∷ []) first second h same low high at_first at_second =
    applied_to ts t s (i ∷ j ∷ []) h same
    ∙ ap₂ (λ m n. apply s (with_term (term_at ts m) (with_term (term_at ts n) no_terms))) (sym at_first)
    (sym at_second)
two_applied ts t s (i ∷ j ∷ k ∷ is) first second h same low high at_first at_second = absurd (omega (arith, high))

not_of_two : (test : Term → Term → Bool) (ts : List Term) (is : List ℕ) → (length is ≡ 2 → ⊥)
    → of_two test (terms_in (terms_of (terms_at ts is))) ≡ false
not_of_two test ts [] other = refl
not_of_two test ts (i ∷ []) other = refl
not_of_two test ts (i ∷ j ∷ []) other = absurd (other refl)
not_of_two test ts (i ∷ j ∷ k ∷ is) other = refl

pub others_unfit : (ts : List Term) (t : Term) (k : AffixKind) (is : List ℕ) → IsShape t (shape.Affix k)
    → terms_at ts is ≡ parts_of t → (length is ≡ 2 → ⊥) → fits t ≡ false
others_unfit ts t kind.Prefix is h same other =
    ap fits (applied_to ts t symbol.str_prefixof is h same) ∙ not_of_two is_affix_pair ts is other
others_unfit ts t kind.Suffix is h same other =
    ap fits (applied_to ts t symbol.str_suffixof is h same) ∙ not_of_two is_affix_pair ts is other
others_unfit ts t kind.Factor is h same other =
    ap fits (applied_to ts t symbol.str_contains is h same)
    ∙ not_of_two (λ whole part. is_affix_pair part whole) ts is other

pub affix_fits : (k : AffixKind) (part whole : Term) → fits (affix k part whole) ≡ is_affix_pair part whole
affix_fits kind.Prefix part whole = refl
affix_fits kind.Suffix part whole = refl
affix_fits kind.Factor part whole = refl

-- Sorts of Boolean structure, and of what is compared in it.

pub structure_sort : (t : Term) → is_structure t ≡ true → sort_of t ≡ boolean
structure_sort (constant serial boolean) h = refl
structure_sort (constant serial integer) h = absurd (false≢true h)
structure_sort (constant serial text) h = absurd (false≢true h)
structure_sort (constant serial reglan) h = absurd (false≢true h)
structure_sort (word w) h = absurd (false≢true h)
structure_sort (numeral n) h = absurd (false≢true h)
structure_sort (parameter place sort) h = absurd (false≢true h)
structure_sort (apply symbol.core_true terms) h = refl
structure_sort (apply symbol.core_false terms) h = refl
structure_sort (apply symbol.core_not terms) h = refl
structure_sort (apply symbol.core_and terms) h = refl
structure_sort (apply symbol.core_or terms) h = refl
structure_sort (apply symbol.core_implies terms) h = refl
structure_sort (apply symbol.core_xor terms) h = refl
structure_sort (apply symbol.core_ite terms) h = refl
structure_sort (apply symbol.core_equal terms) h = refl
structure_sort (apply symbol.core_distinct terms) h = refl
structure_sort (apply symbol.str_in_re terms) h = refl
structure_sort (apply symbol.str_prefixof terms) h = refl
structure_sort (apply symbol.str_suffixof terms) h = refl
structure_sort (apply symbol.str_contains terms) h = refl
structure_sort (apply _ terms) h = absurd (false≢true h)

-- What asks something of one constant's word.

pub asked_structure : (t : Term) (serial : ℕ) (R : Term) → asked t ≡ Some (serial, R) → is_structure t ≡ is_regex R
asked_structure t serial R h = step (asked_looks t serial R h) ∙ asked_membership t serial R h
  where
    step : IsAsking serial t R → is_structure t ≡ is_membership t
    step (a_membership is) = ap is_structure is ∙ sym (ap is_membership is)
    step (a_word_behind w is S) = ap is_structure is ∙ sym (ap is_membership is)
    step (a_word_in_front w is S) = ap is_structure is ∙ sym (ap is_membership is)
