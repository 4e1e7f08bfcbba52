-- Two rules of the fragment by themselves, as a term keeps or breaks them: each constant stands once at most in a
-- membership's String term, and on each side of an equality of two String terms, or of an affix and what it is said to be
-- one of; and one side of these is ground, and so is the regular expression of a membership. Where both are kept, sizes
-- alone may leave the fragment.
use Rattle.std.specs.Prelude.{ℕ, Bool, true, not, ◌&&◌, ◌||◌, ◌==◌, List, [], ◌∷◌, ◌++◌}
use Rattle.std.specs.List.{list_any}
use Rattle.sb_meaning.specs.Terms.{Symbol, boolean, integer, text, reglan, Term, Terms, constant, apply, no_terms, with_term, terms_in}
use Rattle.sb_meaning.specs.Terms as symbol
use Rattle.sb_meaning.specs.Truth.{is_chain, are_pairs}
use Rattle.sb_script.specs.Fragment.{sort_of_first}
use Rattle.sb_script.specs.Pieces.{is_ground}

-- A rule of memberships, of String equalities and of affixes: a test of the arguments of each membership, and one of each
-- two String terms that are compared.
pub record Rule : Type 0 where
  pub of_membership : List Term → Bool
  pub of_pair : Term → Term → Bool

-- terms that are compared, by their sort; of other sorts than String each keeps the rule, or one does not
abbrev pub keeps_compared : Rule → ((Term → Term → Bool) → List Term → Bool) → List Term → Bool → Bool
keeps_compared rule each_two ts each_keeps = elim (sort_of_first ts) [
  | boolean ↦ each_keeps
  | integer ↦ each_keeps
  | text ↦ each_two rule.of_pair ts
  | reglan ↦ each_keeps
]

abbrev pub keeps_applied : Rule → Symbol → List Term → Bool → Bool
keeps_applied rule symbol.core_equal ts each_keeps = keeps_compared rule is_chain ts each_keeps
keeps_applied rule symbol.core_distinct ts each_keeps = keeps_compared rule are_pairs ts each_keeps
keeps_applied rule symbol.str_in_re ts each_keeps = rule.of_membership ts
keeps_applied rule symbol.str_prefixof ts each_keeps = is_chain rule.of_pair ts
keeps_applied rule symbol.str_suffixof ts each_keeps = is_chain rule.of_pair ts
keeps_applied rule symbol.str_contains ts each_keeps = is_chain rule.of_pair ts
keeps_applied rule _ ts each_keeps = each_keeps

-- the term keeps the rule, wherever something that the rule speaks of stands in it
abbrev mutual
  pub keeps : Rule → Term → Bool
  keeps rule (apply s terms) = keeps_applied rule s (terms_in terms) (each_keeps rule terms)
  keeps rule _ = true

  pub each_keeps : Rule → Terms → Bool
  each_keeps rule no_terms = true
  each_keeps rule (with_term term terms) = keeps rule term && each_keeps rule terms

-- Each constant once.

-- the constants that are joined in a String term, in order
abbrev mutual
  pub constants_joined : Term → List ℕ
  constants_joined (constant serial text) = serial ∷ []
  constants_joined (apply symbol.str_concat terms) = constants_joined_in terms
  constants_joined _ = []

  pub constants_joined_in : Terms → List ℕ
  constants_joined_in no_terms = []
  constants_joined_in (with_term term terms) = constants_joined term ++ constants_joined_in terms

abbrev pub stand_once : List ℕ → Bool
stand_once [] = true
stand_once (n ∷ ns) = not (list_any (λ m. n == m) ns) && stand_once ns

abbrev pub has_each_once : Term → Bool
has_each_once t = stand_once (constants_joined t)

abbrev pub first_has_each_once : List Term → Bool
first_has_each_once [] = true
first_has_each_once (t ∷ ts) = has_each_once t

abbrev pub each_once : Rule
each_once = record { of_membership = first_has_each_once; of_pair = λ a b. has_each_once a && has_each_once b }

-- One side ground.

abbrev pub is_over_ground : List Term → Bool
is_over_ground (t ∷ R ∷ []) = is_ground R
is_over_ground _ = true

abbrev pub one_ground : Rule
one_ground = record { of_membership = is_over_ground; of_pair = λ a b. is_ground a || is_ground b }

-- a constant stands twice, or no side is ground where one has to be
abbrev pub repeats_variable : Term → Bool
repeats_variable t = not (keeps each_once t)

abbrev pub lacks_ground : Term → Bool
lacks_ground t = not (keeps one_ground t)
