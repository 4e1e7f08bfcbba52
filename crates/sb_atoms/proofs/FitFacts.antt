-- Terms of Boolean structure that keep the rules of the fragment, by their shapes.
use Rattle.std.proofs.Common.{◌≡◌, Bool, true, false, ◌&&◌, List, refl, sym, ap, ◌∙◌}
use Rattle.std.specs.Prelude.{is_some}
use Rattle.std.specs.List.{list_all}
use Rattle.std.proofs.lemmas.Bool.{and_parts}
use Rattle.sb_meaning.specs.Terms.{Sort, boolean, integer, text, reglan, Term, Terms, apply, no_terms, with_term, terms_in}
use Rattle.sb_script.specs.Fragment.{is_word_pair, is_linear_pair, sort_of_first, fits, each_fits}
use Rattle.sb_script.specs.Pieces.{single_pieces}
use Rattle.sb_script.specs.Sizes.{is_regular}
use Rattle.sb_term.specs.Descending.{GoesDown}
use Rattle.sb_fragment.specs.declared.shape.Connective.{Connective}
use Rattle.sb_fragment.specs.declared.shape.Connective.TheVariants as connective
use Rattle.sb_fragment.specs.Compared.{compared, each_two}
use Rattle.sb_fragment.specs.Memberships.{in_re}
use Rattle.sb_fragment.specs.Shapes.{IsComparison, IsConnected, parts_of, comparison_of}
use Rattle.sb_fragment.proofs.CallerLemmas.{pairs_all_test}
use Rattle.sb_atoms.specs.Reaching.{is_connection, connected_parts}
use Rattle.sb_atoms.proofs.Connections.{applied, parts_pass}

fits_of_all : (terms : Terms) → each_fits terms ≡ list_all fits (terms_in terms)
fits_of_all no_terms = refl
fits_of_all (with_term t terms) = ap (λ b. fits t && b) (fits_of_all terms)

-- Comparisons, by the sort of the first.

each_two_all : (distinct : Bool) (test : Term → Term → Bool) (ts : List Term)
    → each_two distinct test ts ≡ list_all (λ p. test p.0 p.1) (compared distinct ts)
each_two_all true test ts = pairs_all_test test ts
each_two_all false test ts = refl

abbrev by_sort : Sort → Bool → List Term → Bool → Bool
by_sort k distinct ts each = elim k [
  | boolean ↦ each
  | integer ↦ each_two distinct is_linear_pair ts
  | text ↦ each_two distinct is_word_pair ts
  | reglan ↦ false
]

fits_by : (distinct : Bool) (terms : Terms) (k : Sort) → sort_of_first (terms_in terms) ≡ k
    → fits (apply (comparison_of distinct) terms) ≡ by_sort k distinct (terms_in terms) (each_fits terms)
fits_by true terms k e = ap (λ s. by_sort s true (terms_in terms) (each_fits terms)) e
fits_by false terms k e = ap (λ s. by_sort s false (terms_in terms) (each_fits terms)) e

-- of String terms each two that are compared are within the fragment
pub words_fit : (t : Term) (distinct : Bool) → IsComparison t distinct text
    → fits t ≡ list_all (λ p. is_word_pair p.0 p.1) (compared distinct (parts_of t))
words_fit t distinct h =
    rw h.is (fits_by distinct h.terms text h.first ∙ each_two_all distinct is_word_pair (terms_in h.terms))

-- of a membership the String term has pieces
pub member_fits : (t u R : Term) → t ≡ in_re u R → fits t ≡ true → is_some (single_pieces u) ≡ true
member_fits t u R is h = (and_parts (is_some (single_pieces u)) (is_regular R) (ap fits (sym is) ∙ h)).0

-- Connectives.

connected_fits : (t : Term) (c : Connective) → IsConnected t c → fits t ≡ list_all fits (parts_of t)
connected_fits t connective.Not h = rw h.is (fits_of_all h.terms)
connected_fits t connective.And h = rw h.is (fits_of_all h.terms)
connected_fits t connective.Or h = rw h.is (fits_of_all h.terms)
connected_fits t connective.Implies h = rw h.is (fits_of_all h.terms)
connected_fits t connective.Xor h = rw h.is (fits_of_all h.terms)
connected_fits t connective.Ite h = rw h.is (fits_of_all h.terms)
connected_fits t (connective.Compare distinct) h =
    rw h.0.is (fits_by distinct h.0.terms boolean h.0.first ∙ fits_of_all h.0.terms)

pub fits_down : GoesDown connected_parts fits
fits_down t h = parts_pass fits t (is_connection t) (λ is.
    let c = applied t is in sym (connected_fits t c.0 c.1) ∙ h)
