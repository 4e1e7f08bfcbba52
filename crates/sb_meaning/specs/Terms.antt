-- Terms as trees, after `let` and definitions are unfolded. One argument where a theory asks for two is the
-- argument itself, so each application here has as many arguments as its symbol takes.
use Rattle.std.specs.Prelude.{ℕ, List, [], ◌∷◌}

-- the sorts
pub data Sort : Type 0 where
  boolean : Sort
  integer : Sort
  text : Sort
  reglan : Sort

-- the symbols of the theories
pub data Symbol : Type 0 where
  -- Core
  core_true : Symbol
  core_false : Symbol
  core_not : Symbol
  core_and : Symbol
  core_or : Symbol
  core_implies : Symbol
  core_xor : Symbol
  core_ite : Symbol
  core_equal : Symbol
  core_distinct : Symbol
  -- Ints
  at_most : Symbol
  less : Symbol
  at_least : Symbol
  greater : Symbol
  plus : Symbol
  times : Symbol
  minus : Symbol
  -- Unicode Strings
  str_concat : Symbol
  str_len : Symbol
  str_in_re : Symbol
  str_prefixof : Symbol
  str_suffixof : Symbol
  str_contains : Symbol
  str_to_re : Symbol
  re_none : Symbol
  re_all : Symbol
  re_allchar : Symbol
  re_concat : Symbol
  re_union : Symbol
  re_inter : Symbol
  re_diff : Symbol
  re_star : Symbol
  re_plus : Symbol
  re_opt : Symbol
  re_comp : Symbol
  re_range : Symbol
  -- (_ re.^ n), (_ re.loop n m)
  re_power : ℕ → Symbol
  re_loop : ℕ → ℕ → Symbol

mutual
  pub data Term : Type 0 where
    -- a declared constant, by its serial
    constant : ℕ → Sort → Term
    -- the word of a literal, or of (_ char #xH)
    word : List ℕ → Term
    numeral : ℕ → Term
    apply : Symbol → Terms → Term
    -- a parameter of a definition, by its place, in the definition's body alone
    parameter : ℕ → Sort → Term

  pub data Terms : Type 0 where
    no_terms : Terms
    with_term : Term → Terms → Terms

abbrev pub terms_in : Terms → List Term
terms_in no_terms = []
terms_in (with_term term terms) = term ∷ terms_in terms

abbrev pub terms_of : List Term → Terms
terms_of [] = no_terms
terms_of (t ∷ ts) = with_term t (terms_of ts)
