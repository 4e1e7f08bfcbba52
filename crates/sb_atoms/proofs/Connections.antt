-- Terms of Boolean structure that are connectives of their arguments.
use Rattle.std.proofs.Common.{◌≡◌, ℕ, ◌<◌, ◌≤◌, Bool, true, false, ◌&&◌, if◌then◌else◌, List, [], ◌∷◌, length, Some, refl, sym, ap, ◌∙◌, arith}
use Rattle.std.specs.List.{list_all}
use Rattle.std.proofs.lemmas.Bool.{and_parts, false≢true}
use Rattle.std.proofs.Math.Bool.{and-false}
use Rattle.sb_meaning.specs.Terms.{Sort, boolean, integer, text, reglan, Term, Terms, apply, no_terms, with_term, terms_in}
use Rattle.sb_meaning.specs.Terms as symbol
use Rattle.sb_script.specs.Brought.{asked, is_structure}
use Rattle.sb_script.specs.Fragment.{sort_of_first}
use Rattle.sb_script.proofs.CallerLemmas.{IsAsking, a_membership, a_word_behind, a_word_in_front, asked_looks}
use Rattle.sb_term.specs.Descending.{GoesDown}
use Rattle.sb_fragment.specs.declared.shape.AffixKind.{AffixKind}
use Rattle.sb_fragment.specs.declared.shape.AffixKind.TheVariants as kind
use Rattle.sb_fragment.specs.declared.shape.Connective.{Connective}
use Rattle.sb_fragment.specs.declared.shape.Connective.TheVariants as connective
use Rattle.sb_fragment.specs.declared.shape.Shape.{Shape}
use Rattle.sb_fragment.specs.declared.shape.Shape.TheVariants as shape
use Rattle.sb_fragment.specs.Memberships.{is_in_re}
use Rattle.sb_fragment.specs.Shapes.{IsApplied, IsComparison, IsConnected, IsShape, parts_of, comparison_of, affix_of}
use Rattle.sb_fragment.proofs.CallerLemmas.{connected_structure}
use Rattle.sb_atoms.specs.Translated.{has_declared}
use Rattle.sb_atoms.specs.Reaching.{is_connective, is_boolean, are_several, are_truths, is_connection, connected_parts}
use Rattle.sb_atoms.proofs.Found.{declared_parts}

few : (ts : List Term) → length ts < 2 → are_several ts ≡ false
few [] h = refl
few (t ∷ []) h = refl
few (t ∷ u ∷ ts) h = absurd (omega (arith, h))

several : (ts : List Term) → 2 ≤ length ts → are_several ts ≡ true
several [] h = absurd (omega (arith, h))
several (t ∷ []) h = absurd (omega (arith, h))
several (t ∷ u ∷ ts) h = refl

two_at_least : (ts : List Term) → are_several ts ≡ true → 2 ≤ length ts
two_at_least [] h = absurd (false≢true h)
two_at_least (t ∷ []) h = absurd (false≢true h)
two_at_least (t ∷ u ∷ ts) h = omega arith

a_boolean : (s : Sort) → is_boolean s ≡ true → s ≡ boolean
a_boolean boolean h = refl
a_boolean integer h = absurd (false≢true h)
a_boolean text h = absurd (false≢true h)
a_boolean reglan h = absurd (false≢true h)

-- A comparison is one by what is compared.
comparison_is : (distinct : Bool) (terms : Terms)
    → is_connection (apply (comparison_of distinct) terms) ≡ are_truths (terms_in terms)
comparison_is true terms = refl
comparison_is false terms = refl

compared_is : (t : Term) (distinct : Bool) (sort : Sort) → IsComparison t distinct sort
    → is_connection t ≡ (are_several (parts_of t) && is_boolean sort)
compared_is t distinct sort h =
    ap is_connection h.is
    ∙ comparison_is distinct h.terms
    ∙ ap (λ s. are_several (terms_in h.terms) && is_boolean s) h.first
    ∙ sym (ap (λ u. are_several (parts_of u) && is_boolean sort) h.is)

pub connected_is : (t : Term) (c : Connective) → IsConnected t c → is_connection t ≡ true
connected_is t connective.Not h = ap is_connection h.is
connected_is t connective.And h = ap is_connection h.is
connected_is t connective.Or h = ap is_connection h.is
connected_is t connective.Implies h = ap is_connection h.is
connected_is t connective.Xor h = ap is_connection h.is
connected_is t connective.Ite h = ap is_connection h.is
connected_is t (connective.Compare distinct) h =
    compared_is t distinct boolean h.0 ∙ ap (λ b. b && true) (several (parts_of t) h.1)

pub connected_parts_are : (t : Term) (c : Connective) → IsConnected t c → parts_of t ≡ connected_parts t
connected_parts_are t c h = sym (ap (λ (b : Bool). if b then parts_of t else []) (connected_is t c h))

-- a membership is none
member_is : (t : Term) → is_in_re t ≡ true → false ≡ is_connection t
member_is (apply symbol.str_in_re (with_term u (with_term R no_terms))) h = refl
member_is _ h = absurd (false≢true h)

-- an affix is none
affix_is : (t : Term) (k : AffixKind) → IsApplied t (affix_of k) → false ≡ is_connection t
affix_is t kind.Prefix h = sym (ap is_connection h.is)
affix_is t kind.Suffix h = sym (ap is_connection h.is)
affix_is t kind.Factor h = sym (ap is_connection h.is)

pub shape_is : (t : Term) (s : Shape) → IsShape t s → is_structure t ≡ true → is_connective s ≡ is_connection t
shape_is t (shape.Constant serial) h structure = sym (ap is_connection h)
shape_is t (shape.Always true) h structure = sym (ap is_connection h.is)
shape_is t (shape.Always false) h structure = sym (ap is_connection h.is)
shape_is t shape.Alone h structure =
    sym (compared_is t h.0 boolean h.1 ∙ ap (λ b. b && true) (few (parts_of t) h.2))
shape_is t (shape.Connected c) h structure = sym (connected_is t c h)
shape_is t shape.Member h structure = member_is t h
shape_is t (shape.Words distinct) h structure =
    sym (compared_is t distinct text h ∙ and-false (are_several (parts_of t)))
shape_is t (shape.Affix k) h structure = affix_is t k h
shape_is t shape.Other h structure = absurd (false≢true (sym h ∙ structure))

pub asked_is : (t : Term) (serial : ℕ) (R : Term) → asked t ≡ Some (serial, R) → false ≡ is_connection t
asked_is t serial R h = step (asked_looks t serial R h)
  where
    step : IsAsking serial t R → false ≡ is_connection t
    step (a_membership is) = sym (ap is_connection is)
    step (a_word_behind w is S) = sym (ap is_connection is)
    step (a_word_in_front w is S) = sym (ap is_connection is)

-- Which connective it is.
pub applied : (t : Term) → is_connection t ≡ true → (c : Connective) × IsConnected t c
applied (apply symbol.core_not terms) h = (connective.Not, record { terms = terms; is = refl })
applied (apply symbol.core_and terms) h = (connective.And, record { terms = terms; is = refl })
applied (apply symbol.core_or terms) h = (connective.Or, record { terms = terms; is = refl })
applied (apply symbol.core_implies terms) h = (connective.Implies, record { terms = terms; is = refl })
applied (apply symbol.core_xor terms) h = (connective.Xor, record { terms = terms; is = refl })
applied (apply symbol.core_ite terms) h = (connective.Ite, record { terms = terms; is = refl })
applied (apply symbol.core_equal terms) h =
    let p = and_parts (are_several (terms_in terms)) (is_boolean (sort_of_first (terms_in terms))) h in (
      connective.Compare false,
      (
        record { terms = terms; is = refl; first = a_boolean (sort_of_first (terms_in terms)) p.1 },
        two_at_least (terms_in terms) p.0,
      ),
    )
applied (apply symbol.core_distinct terms) h =
    let p = and_parts (are_several (terms_in terms)) (is_boolean (sort_of_first (terms_in terms))) h in (
      connective.Compare true,
      (
        record { terms = terms; is = refl; first = a_boolean (sort_of_first (terms_in terms)) p.1 },
        two_at_least (terms_in terms) p.0,
      ),
    )
applied _ h = absurd (false≢true h)

-- What goes down.

pub parts_pass : (test : Term → Bool) (t : Term) (b : Bool) → (b ≡ true → list_all test (parts_of t) ≡ true)
    → list_all test (if b then parts_of t else []) ≡ true
parts_pass test t true h = h refl
parts_pass test t false h = refl

pub structure_down : GoesDown connected_parts is_structure
structure_down t h = parts_pass is_structure t (is_connection t) (λ is.
    let c = applied t is in sym (connected_structure t c.0 c.1) ∙ h)

pub declared_down : (sorts : List Sort) → GoesDown connected_parts (has_declared sorts)
declared_down sorts t h = parts_pass (has_declared sorts) t (is_connection t) (λ is. declared_parts sorts t h)
