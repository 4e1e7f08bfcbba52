-- The shapes of terms of Boolean structure (SMT-LIB 2.6, theory Core).
use Rattle.std.specs.Prelude.{◌≡◌, ℕ, ◌<◌, ◌≤◌, Bool, true, false, ◌&&◌, nat_lt, if◌then◌else◌, List, [], length, map}
use Rattle.std.specs.List.{list_all}
use Rattle.sb_meaning.specs.Terms.{Sort, Symbol, boolean, text, Term, Terms, constant, apply, no_terms, with_term, terms_in}
use Rattle.sb_meaning.specs.Terms as symbol
use Rattle.sb_script.specs.Brought.{is_structure, is_text}
use Rattle.sb_script.specs.Fragment.{sort_of_first}
use Rattle.sb_term.specs.Numbered.{term_at}
use Rattle.sb_fragment.specs.Memberships.{is_in_re}
use Rattle.sb_fragment.specs.declared.shape.AffixKind.{AffixKind}
use Rattle.sb_fragment.specs.declared.shape.AffixKind.TheVariants as kind
use Rattle.sb_fragment.specs.declared.shape.Connective.{Connective}
use Rattle.sb_fragment.specs.declared.shape.Connective.TheVariants as connective
use Rattle.sb_fragment.specs.declared.shape.Shape.{Shape}
use Rattle.sb_fragment.specs.declared.shape.Shape.TheVariants as shape
use Rattle.sb_fragment.specs.declared.measures.Sides.{Sides}

abbrev pub truth_of : Bool → Symbol
truth_of truth = if truth then symbol.core_true else symbol.core_false

abbrev pub comparison_of : Bool → Symbol
comparison_of distinct = if distinct then symbol.core_distinct else symbol.core_equal

-- the symbol that says of one of two words that it is such a part of the other
abbrev pub affix_of : AffixKind → Symbol
affix_of kind.Prefix = symbol.str_prefixof
affix_of kind.Suffix = symbol.str_suffixof
affix_of kind.Factor = symbol.str_contains

-- the term that says that the first one is such a part of the second
abbrev pub affix : AffixKind → Term → Term → Term
affix kind.Prefix part whole = apply symbol.str_prefixof (with_term part (with_term whole no_terms))
affix kind.Suffix part whole = apply symbol.str_suffixof (with_term part (with_term whole no_terms))
affix kind.Factor part whole = apply symbol.str_contains (with_term whole (with_term part no_terms))

-- the arguments of a term
abbrev pub parts_of : Term → List Term
parts_of (apply s terms) = terms_in terms
parts_of _ = []

-- the term is the symbol with arguments
pub record IsApplied (t : Term) (s : Symbol) : Type 0 where
  pub terms : Terms
  pub is : t ≡ apply s terms

-- the term compares its arguments, of which the first is of this sort; none are of sort Bool
pub record IsComparison (t : Term) (distinct : Bool) (sort : Sort) : Type 0 where
  pub terms : Terms
  pub is : t ≡ apply (comparison_of distinct) terms
  pub first : sort_of_first (terms_in terms) ≡ sort

-- the term is the connective of its arguments
abbrev pub IsConnected : Term → Connective → Type 0
IsConnected t connective.Not = IsApplied t symbol.core_not
IsConnected t connective.And = IsApplied t symbol.core_and
IsConnected t connective.Or = IsApplied t symbol.core_or
IsConnected t connective.Implies = IsApplied t symbol.core_implies
IsConnected t connective.Xor = IsApplied t symbol.core_xor
IsConnected t connective.Ite = IsApplied t symbol.core_ite
IsConnected t (connective.Compare distinct) = IsComparison t distinct boolean × (2 ≤ length (parts_of t))

-- the term is of this shape
abbrev pub IsShape : Term → Shape → Type 0
IsShape t (shape.Constant serial) = t ≡ constant serial.0 boolean
IsShape t (shape.Always truth) = IsApplied t (truth_of truth)
IsShape t shape.Alone = (distinct : Bool) × IsComparison t distinct boolean × (length (parts_of t) < 2)
IsShape t (shape.Connected c) = IsConnected t c
IsShape t shape.Member = is_in_re t ≡ true
IsShape t (shape.Words distinct) = IsComparison t distinct text
IsShape t (shape.Affix k) = IsApplied t (affix_of k)
IsShape t shape.Other = is_structure t ≡ false

-- the sides of an equality of two String terms: the one that is to be a word, which is the second where it is one, and
-- the other one
abbrev pub sides_in : List Term → ℕ → ℕ → Sides
sides_in ts one other =
    if is_text (term_at ts other) then record { word = other; other = one } else record { word = one; other = other }

-- the terms of pairs of numbers
abbrev pub terms_of_pairs : List Term → List (ℕ × ℕ) → List (Term × Term)
terms_of_pairs ts ps = map (λ p. (term_at ts p.0, term_at ts p.1)) ps

abbrev pub are_numbers : ℕ → List (ℕ × ℕ) → Bool
are_numbers n ps = list_all (λ p. nat_lt p.0 n && nat_lt p.1 n) ps
