-- What is read and decided so far, by what is to come. That is answered `unsupported`, as what is left out for good is.
-- Which is which stands here alone.
use Rattle.std.specs.Prelude.{ℕ, Bool, true, false, not, ◌&&◌, List, [], ◌∷◌, codes, Option, Some, None}
use Rattle.sb_meaning.specs.Terms.{Sort, Symbol, Term, Terms, boolean, integer, text, reglan, constant, word, apply, no_terms, with_term, terms_in}
use Rattle.sb_meaning.specs.Terms as symbol
use Rattle.sb_meaning.specs.Sorts.{sort_of}
use Rattle.sb_script.specs.Names.{Name, is_among}

pub data Feature : Type 0 where
  a_symbol : Symbol → Feature
  -- a sort that constants may have
  a_sort : Sort → Feature
  an_option : Name → Feature
  -- numerals as terms
  numerals : Feature
  lets : Feature
  -- the declaration of a function without arguments
  functions : Feature
  definitions : Feature
  -- the literal of this live assertion, in a proof
  a_statement_of : Term → Feature
  -- a check under this live assertion
  a_check_of : Term → Feature
  -- the proof of a check, so that the limits on sizes count, past which there is none
  proofs : Feature

-- the options, the symbols and the sorts of constants that are to come
abbrev pub options_to_come : List Name
options_to_come = codes ":reproducible-resource-limit" ∷ []

abbrev pub is_brought_symbol : Symbol → Bool
is_brought_symbol symbol.at_most = false
is_brought_symbol symbol.less = false
is_brought_symbol symbol.at_least = false
is_brought_symbol symbol.greater = false
is_brought_symbol symbol.plus = false
is_brought_symbol symbol.times = false
is_brought_symbol symbol.minus = false
is_brought_symbol symbol.str_len = false
is_brought_symbol _ = true

abbrev pub is_brought_sort : Sort → Bool
is_brought_sort integer = false
is_brought_sort reglan = false
is_brought_sort _ = true

-- The term is a word: a literal, or a concatenation of such.
abbrev mutual
  pub is_text : Term → Bool
  is_text (word w) = true
  is_text (apply symbol.str_concat terms) = are_texts terms
  is_text _ = false

  pub are_texts : Terms → Bool
  are_texts no_terms = true
  are_texts (with_term t ts) = is_text t && are_texts ts

-- The term is a regular expression over words: a word, a range, no word, every word, every character, or made of such
-- by concatenation, union, intersection, difference, complement, option, repetition, powers and loops.
abbrev mutual
  pub is_regex : Term → Bool
  is_regex (apply symbol.str_to_re (with_term t no_terms)) = is_text t
  is_regex (apply symbol.re_range (with_term s (with_term t no_terms))) = is_text s && is_text t
  is_regex (apply symbol.re_none no_terms) = true
  is_regex (apply symbol.re_all no_terms) = true
  is_regex (apply symbol.re_allchar no_terms) = true
  is_regex (apply symbol.re_concat (with_term R Rs)) = is_regex R && are_regexes Rs
  is_regex (apply symbol.re_union (with_term R Rs)) = is_regex R && are_regexes Rs
  is_regex (apply symbol.re_inter (with_term R Rs)) = is_regex R && are_regexes Rs
  is_regex (apply symbol.re_diff (with_term R Rs)) = is_regex R && are_regexes Rs
  is_regex (apply symbol.re_star (with_term R no_terms)) = is_regex R
  is_regex (apply symbol.re_plus (with_term R no_terms)) = is_regex R
  is_regex (apply symbol.re_opt (with_term R no_terms)) = is_regex R
  is_regex (apply symbol.re_comp (with_term R no_terms)) = is_regex R
  is_regex (apply (symbol.re_power n) (with_term R no_terms)) = is_regex R
  is_regex (apply (symbol.re_loop n m) (with_term R no_terms)) = is_regex R
  is_regex _ = false

  pub are_regexes : Terms → Bool
  are_regexes no_terms = true
  are_regexes (with_term R Rs) = is_regex R && are_regexes Rs

-- the membership of a constant in a regular expression
abbrev pub membership_of : ℕ → Term → Term
membership_of serial R = apply symbol.str_in_re (with_term (constant serial text) (with_term R no_terms))

-- What a term asks of the word of one constant, where it asks this alone: the constant's serial, and the regular
-- expression that the word is to be in. An equality with a literal asks for the literal's word.
abbrev pub asked : Term → Option (ℕ × Term)
asked (apply symbol.str_in_re (with_term (constant serial text) (with_term R no_terms))) = Some (serial, R)
asked (apply symbol.core_equal (with_term (constant serial text) (with_term (word w) no_terms))) =
    Some (serial, apply symbol.str_to_re (with_term (word w) no_terms))
asked (apply symbol.core_equal (with_term (word w) (with_term (constant serial text) no_terms))) =
    Some (serial, apply symbol.str_to_re (with_term (word w) no_terms))
asked _ = None

-- the term is the membership of a constant in such a regular expression, or its equality with a literal
abbrev pub is_membership : Term → Bool
is_membership t = elim (asked t) [ Some p ↦ is_regex p.1 | None ↦ false ]

-- Boolean structure over memberships of String terms in such regular expressions, over String terms that are compared,
-- or of which one is said to be a prefix, a suffix or a factor of the other, and over Bool constants, whatever stands in
-- the String terms, and whatever the sizes are: that is for the rules of the fragment.

-- terms that are compared, by the sort of the first; each_is says that each of them is Boolean structure
abbrev pub is_comparison : List Term → Bool → Bool
is_comparison [] each_is = each_is
is_comparison (t ∷ ts) each_is = elim (sort_of t) [
  | boolean ↦ each_is
  | integer ↦ false
  | text ↦ true
  | reglan ↦ false
]

abbrev pub is_in_regex : List Term → Bool
is_in_regex (t ∷ R ∷ []) = is_regex R
is_in_regex _ = false

abbrev pub is_structure_by : Symbol → List Term → Bool → Bool
is_structure_by symbol.core_true ts each_is = each_is
is_structure_by symbol.core_false ts each_is = each_is
is_structure_by symbol.core_not ts each_is = each_is
is_structure_by symbol.core_and ts each_is = each_is
is_structure_by symbol.core_or ts each_is = each_is
is_structure_by symbol.core_implies ts each_is = each_is
is_structure_by symbol.core_xor ts each_is = each_is
is_structure_by symbol.core_ite ts each_is = each_is
is_structure_by symbol.core_equal ts each_is = is_comparison ts each_is
is_structure_by symbol.core_distinct ts each_is = is_comparison ts each_is
is_structure_by symbol.str_in_re ts each_is = is_in_regex ts
is_structure_by symbol.str_prefixof ts each_is = true
is_structure_by symbol.str_suffixof ts each_is = true
is_structure_by symbol.str_contains ts each_is = true
is_structure_by _ ts each_is = false

abbrev mutual
  pub is_structure : Term → Bool
  is_structure (constant serial boolean) = true
  is_structure (apply s terms) = is_structure_by s (terms_in terms) (are_structure terms)
  is_structure _ = false

  pub are_structure : Terms → Bool
  are_structure no_terms = true
  are_structure (with_term term terms) = is_structure term && are_structure terms

abbrev pub is_brought : Feature → Bool
is_brought (a_symbol s) = is_brought_symbol s
is_brought (a_sort sort) = is_brought_sort sort
is_brought (an_option name) = not (is_among options_to_come name)
is_brought numerals = false
is_brought lets = true
is_brought functions = true
is_brought definitions = true
is_brought (a_statement_of t) = is_structure t
is_brought (a_check_of t) = is_structure t
is_brought proofs = true
