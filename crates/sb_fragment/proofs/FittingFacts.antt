-- Which terms of Boolean structure are within the limits on sizes, by their shapes.
use Rattle.std.proofs.Common.{◌≡◌, ℕ, ◌<◌, Bool, true, false, ◌&&◌, List, length, get_or, Some, refl, sym, subst, ap, ap₂, ◌∙◌}
use Rattle.std.specs.List.{list_all}
use Rattle.std.proofs.lemmas.Bool.{false≢true}
use Rattle.std.proofs.Math.Bool.{and-true}
use Rattle.sb_meaning.specs.Terms.{Sort, boolean, integer, text, reglan, Term, Terms, constant, apply, str_to_re, no_terms, with_term, terms_in}
use Rattle.sb_script.specs.Brought.{asked, is_regex, is_structure}
use Rattle.sb_script.specs.Fragment.{fits, each_fits, is_affix_pair, is_word_pair, is_linear_pair, sort_of_first}
use Rattle.sb_script.specs.Sizes.{is_regular}
use Rattle.sb_script.proofs.CallerLemmas.{asked_regular}
use Rattle.sb_term.specs.Numbered.{term_at}
use Rattle.sb_problem.specs.Patterns.{literal_of, number_of, pattern_in}
use Rattle.sb_problem.specs.declared.pattern.Pattern.{Pattern}
use Rattle.sb_problem.specs.declared.pattern.Pattern.TheVariants.{Expression, Word}
use Rattle.sb_fragment.specs.declared.fitting.Fit.{Fit}
use Rattle.sb_fragment.specs.declared.measure.Measure.{Measure}
use Rattle.sb_fragment.specs.declared.shape.AffixKind.{AffixKind}
use Rattle.sb_fragment.specs.declared.shape.Connective.{Connective}
use Rattle.sb_fragment.specs.declared.shape.Connective.TheVariants as connective
use Rattle.sb_fragment.specs.declared.shape.Shape.TheVariants as shape
use Rattle.sb_fragment.specs.Compared.{each_two}
use Rattle.sb_fragment.specs.Measures.{IsMeasure, AreMeasures}
use Rattle.sb_fragment.specs.Measured.{joined, no_measure, applied_measure, within}
use Rattle.sb_fragment.specs.Memberships.{in_re, is_in_re}
use Rattle.sb_fragment.specs.Shapes.{IsApplied, IsComparison, IsConnected, IsShape, parts_of, truth_of, comparison_of, affix}
use Rattle.sb_fragment.specs.Fitting.{AreFit, IsFit, fit_with, fit_by, is_single, regex_fit}
use Rattle.sb_fragment.proofs.MeasureFacts.{literal_is, regular_is}
use Rattle.sb_fragment.proofs.SideFacts.{measured_at}
use Rattle.sb_fragment.proofs.Structured.{asked_structure, always_structure, alone_structure, connected_structure, words_structure, affix_structure, affix_fits}

fits_of_all : (terms : Terms) → each_fits terms ≡ list_all fits (terms_in terms)
fits_of_all no_terms = refl
fits_of_all (with_term t terms) = ap (λ b. fits t && b) (fits_of_all terms)

-- by the sort of the first
abbrev by_sort : Sort → Bool → List Term → Bool → Bool
by_sort k distinct ts each_fits = elim k [
  | boolean ↦ each_fits
  | integer ↦ each_two distinct is_linear_pair ts
  | text ↦ each_two distinct is_word_pair ts
  | reglan ↦ false
]

fits_by : (distinct : Bool) (terms : Terms) (k : Sort) → sort_of_first (terms_in terms) ≡ k
    → fits (apply (comparison_of distinct) terms) ≡ by_sort k distinct (terms_in terms) (each_fits terms)
fits_by true terms k e = ap (λ s. by_sort s true (terms_in terms) (each_fits terms)) e
fits_by false terms k e = ap (λ s. by_sort s false (terms_in terms) (each_fits terms)) e

compared_fits : (t : Term) (distinct : Bool) → IsComparison t distinct boolean → fits t ≡ list_all fits (parts_of t)
compared_fits t true h = rw h.is (fits_by true h.terms boolean h.first ∙ fits_of_all h.terms)
compared_fits t false h = rw h.is (fits_by false h.terms boolean h.first ∙ fits_of_all h.terms)

words_fits : (t : Term) (distinct : Bool) → IsComparison t distinct text
    → fits t ≡ each_two distinct is_word_pair (parts_of t)
words_fits t true h = rw h.is (fits_by true h.terms text h.first)
words_fits t false h = rw h.is (fits_by false h.terms text h.first)

connected_fits : (t : Term) (c : Connective) → IsConnected t c → fits t ≡ list_all fits (parts_of t)
connected_fits t connective.Not h = rw h.is (fits_of_all h.terms)
connected_fits t connective.And h = rw h.is (fits_of_all h.terms)
connected_fits t connective.Or h = rw h.is (fits_of_all h.terms)
connected_fits t connective.Implies h = rw h.is (fits_of_all h.terms)
connected_fits t connective.Xor h = rw h.is (fits_of_all h.terms)
connected_fits t connective.Ite h = rw h.is (fits_of_all h.terms)
connected_fits t (connective.Compare distinct) h = compared_fits t distinct h.0

always_fits : (t : Term) (truth : Bool) → IsApplied t (truth_of truth) → fits t ≡ list_all fits (parts_of t)
always_fits t true h = rw h.is (fits_of_all h.terms)
always_fits t false h = rw h.is (fits_of_all h.terms)

-- Structure and limits together.

by_parts : (t : Term) (parts : Fit) → AreFit (parts_of t) parts → is_structure t ≡ list_all is_structure (parts_of t)
    → fits t ≡ list_all fits (parts_of t) → IsFit t parts
by_parts t parts h s f = record { structure = h.structure ∙ sym s; fitting = h.fitting ∙ sym (ap₂ ◌&&◌ s f) }

pub always_fit : (t : Term) (truth : Bool) (parts : Fit) → IsApplied t (truth_of truth) → AreFit (parts_of t) parts
    → IsFit t parts
always_fit t truth parts h p = by_parts t parts p (always_structure t truth h) (always_fits t truth h)

pub alone_fit : (t : Term) (parts : Fit) → IsShape t shape.Alone → AreFit (parts_of t) parts → IsFit t parts
alone_fit t parts h p = by_parts t parts p (alone_structure t h) (compared_fits t h.0 h.1)

pub connected_fit : (t : Term) (c : Connective) (parts : Fit) → IsConnected t c → AreFit (parts_of t) parts
    → IsFit t parts
connected_fit t c parts h p = by_parts t parts p (connected_structure t c h) (connected_fits t c h)

pub words_fit : (t : Term) (distinct : Bool) (ts : List Term) (all : Bool) → IsShape t (shape.Words distinct)
    → ts ≡ parts_of t → all ≡ each_two distinct is_word_pair ts → IsFit t (fit_with true all)
words_fit t distinct ts all h same e = record {
  structure = sym (words_structure t distinct h);
  fitting = e
      ∙ (ap (each_two distinct is_word_pair) same
      ∙ (sym (words_fits t distinct h) ∙ ap (λ b. b && fits t) (sym (words_structure t distinct h))));
}

pub asked_fit : (t : Term) (serial : ℕ) (R : Term) (fit : Fit) → asked t ≡ Some (serial, R) → fit ≡ regex_fit R
    → IsFit t fit
asked_fit t serial R fit h e = rw e (record {
  structure = sym (asked_structure t serial R h);
  fitting = sym (ap₂ ◌&&◌ (asked_structure t serial R h) (asked_regular t serial R h));
})

pub constant_fit : (t : Term) (serial : ℕ) → t ≡ constant serial boolean → IsFit t (fit_with true true)
constant_fit t serial h = rw h (record { structure = refl; fitting = refl })

pub other_fit : (t : Term) → is_structure t ≡ false → IsFit t (fit_with false false)
other_fit t h = record { structure = sym h; fitting = ap (λ b. b && fits t) (sym h) }

-- Memberships.

member_by : (r w s : Bool) → ((r && w) && s) ≡ (r && (s && w))
member_by true true s = sym (and-true s)
member_by true false true = refl
member_by true false false = refl
member_by false w s = refl

pub member_fit : (ts : List Term) (id a b : ℕ) (fit : Fit) (single now : Bool)
    → term_at ts id ≡ in_re (term_at ts a) (term_at ts b) → single ≡ is_single (term_at ts a)
    → fit ≡ regex_fit (term_at ts b) → now ≡ (fit.fits && single)
    → IsFit (term_at ts id) (fit_with fit.is_structure now)
member_fit ts id a b fit single now is s f n =
    let t = term_at ts a in
    let R = term_at ts b in
    rw is (record {
      structure = ap (λ (x : Fit). x.is_structure) f;
      fitting = n
          ∙ (ap₂ (λ (x : Fit) c. x.fits && c) f s ∙ member_by (is_regex R) (is_regular R) (is_single t));
    })

pub no_member : (t : Term) (fit : Fit) → is_in_re t ≡ false → is_in_re t ≡ true → IsFit t fit
no_member t fit h k = absurd (false≢true (sym h ∙ k))

-- Affixes.

pub affix_fit : (t part whole : Term) (k : AffixKind) (both : Bool) → IsShape t (shape.Affix k)
    → t ≡ affix k part whole → both ≡ is_affix_pair part whole → IsFit t (fit_with true both)
affix_fit t part whole k both h is e = record {
  structure = sym (affix_structure t k h);
  fitting = e ∙ sym (ap₂ ◌&&◌ (affix_structure t k h) (ap fits is ∙ affix_fits k part whole));
}

pub no_affix : (t : Term) (k : AffixKind) → IsShape t (shape.Affix k) → fits t ≡ false → IsFit t (fit_with true false)
no_affix t k h unfit = record {
  structure = sym (affix_structure t k h);
  fitting = sym (ap₂ ◌&&◌ (affix_structure t k h) unfit);
}

-- by the measure of a regular expression
measured_fit : (R : Term) (m : Measure) → IsMeasure R m → fit_by m.is_regex (within m) ≡ regex_fit R
measured_fit R m is = ap₂ fit_by is.regex (regular_is R m is)

-- by its number
pub number_fit : (ts : List Term) (ms : List Measure) (i n : ℕ) (d : Measure) → AreMeasures ts ms → n ≡ i
    → i < length ms → fit_by (get_or ms n d).is_regex (within (get_or ms n d)) ≡ regex_fit (term_at ts i)
number_fit ts ms i n d h e l = measured_fit (term_at ts i) (get_or ms n d) (measured_at ts ms i n d h e l)

pub expression_fit : (ts : List Term) (ms : List Measure) (i n : ℕ) (d : Measure) (p : Pattern) → AreMeasures ts ms
    → p ≡ Expression i → n ≡ i → number_of p < length ms
    → fit_by (get_or ms n d).is_regex (within (get_or ms n d)) ≡ regex_fit (pattern_in ts p)
expression_fit ts ms i n d p h is e l = rw is (number_fit ts ms i n d h e (rw is at l))

pub literal_fit : (ts : List Term) (ms : List Measure) (i n : ℕ) (d m : Measure) (p : Pattern) → AreMeasures ts ms
    → p ≡ Word i → n ≡ i → number_of p < length ms → m ≡ applied_measure str_to_re 1 (joined (get_or ms n d) no_measure)
    → fit_by m.is_regex (within m) ≡ regex_fit (pattern_in ts p)
literal_fit ts ms i n d m p h is e l made =
    rw is (measured_fit (literal_of (term_at ts i)) m
    (subst (IsMeasure (literal_of (term_at ts i))) (sym made)
    (literal_is (term_at ts i) (get_or ms n d) (measured_at ts ms i n d h e (rw is at l)))))
