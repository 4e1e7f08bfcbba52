-- The values that a check may give.
use Rattle.std.specs.Prelude.{◌≡◌, ℕ, pos, Bool, true, false, not, ◌||◌, ◌==◌, List, [], ◌∷◌, ◌++◌, map, filter}
use Rattle.std.specs.List.{list_all, list_any}
use Rattle.std.specs.Ordering.{int_eq}
use Rattle.sb_lang.specs.Languages.{Language}
use Rattle.sb_lang.specs.Least.{IsShortestLeast}
use Rattle.sb_meaning.specs.Terms.{text, Term, Terms, constant, apply, no_terms, with_term}
use Rattle.sb_meaning.specs.Terms as symbol
use Rattle.sb_meaning.specs.Values.{Value, Valuation, Text, Int, Truth, value_in}
use Rattle.sb_meaning.specs.Truth.{all_hold}
use Rattle.sb_script.specs.Scopes.{Constant}
use Rattle.sb_script.specs.State.{State, Assertion, asserted, a_mark, Assumption, assumed, live, live_terms, constants_of, is_model}

-- the constant occurs in the term
abbrev mutual
  pub occurs : ℕ → Term → Bool
  occurs serial (constant other sort) = serial == other
  occurs serial (apply s terms) = occurs_in_some serial terms
  occurs serial _ = false

  pub occurs_in_some : ℕ → Terms → Bool
  occurs_in_some serial no_terms = false
  occurs_in_some serial (with_term term terms) = occurs serial term || occurs_in_some serial terms

abbrev pub is_default : Value → Bool
is_default (Text []) = true
is_default (Text (c ∷ w)) = false
is_default (Int n) = int_eq n (pos 0)
is_default (Truth b) = not b

-- the constant occurs in one of the terms, or has the value of its sort by default
abbrev pub is_default_or_occurs : List Term → Valuation → Constant → Bool
is_default_or_occurs ts v c = list_any (occurs c.serial) ts || is_default (value_in v c.serial c.sort)

abbrev pub are_defaults : List Constant → List Term → Valuation → Bool
are_defaults cs ts v = list_all (is_default_or_occurs ts v) cs

-- Plain scripts: each live assertion is the membership of one constant, or the negation of one.

abbrev pub is_of_constant : Term → Bool
is_of_constant (apply symbol.str_in_re (with_term (constant serial text) (with_term R no_terms))) = true
is_of_constant _ = false

abbrev pub is_plain_term : Term → Bool
is_plain_term (apply symbol.core_not (with_term t no_terms)) = is_of_constant t
is_plain_term t = is_of_constant t

abbrev pub is_plain_assertion : Assertion → Bool
is_plain_assertion (asserted t) = is_plain_term t
is_plain_assertion a_mark = false

abbrev pub is_plain : State → Bool
is_plain s = list_all is_plain_assertion (live s)

-- the term is of this constant
abbrev pub is_of : ℕ → Term → Bool
is_of serial (apply symbol.str_in_re (with_term (constant other sort) (with_term R no_terms))) = serial == other
is_of serial _ = false

-- the term is the membership of this constant, or its negation
abbrev pub is_about : ℕ → Term → Bool
is_about serial (apply symbol.core_not (with_term t no_terms)) = is_of serial t
is_about serial t = is_of serial t

-- the terms that are memberships of the constant
abbrev pub about : ℕ → List Term → List Term
about serial ts = filter (is_about serial) ts

-- the words that make all memberships of the constant true
abbrev pub words_for : ℕ → List Term → Language
words_for serial ts w = all_hold (about serial ts) ((serial, Text w) ∷ [])

-- Each constant's word is the shortest that makes its memberships true, the least by code points among the shortest; so
-- a constant without memberships is the empty word.
abbrev pub AreShortestLeast : List Term → Valuation → Type 0
AreShortestLeast ts [] = Unit {0}
AreShortestLeast ts ((serial, Text w) ∷ v) = IsShortestLeast (words_for serial ts) w × AreShortestLeast ts v
AreShortestLeast ts ((serial, Int n) ∷ v) = AreShortestLeast ts v
AreShortestLeast ts ((serial, Truth b) ∷ v) = AreShortestLeast ts v

-- the values that a check may give
pub record IsGiven (s : State) (assumptions : List Assumption) (v : Valuation) : Type 0 where
  pub model : is_model s assumptions v ≡ true
  -- what occurs nowhere has the value of its sort by default
  pub defaults : are_defaults (constants_of s) (map assumed assumptions ++ live_terms s) v ≡ true
  pub least : is_plain s ≡ true → AreShortestLeast (live_terms s) v
