-- Terms of sort RegLan, with words in place of ground String terms (SMT-LIB theory of Unicode Strings,
-- regular expressions). A term of more than two arguments is the fold of its symbol: `re.++`, `re.union` and
-- `re.inter` from the right, `re.diff` from the left.
use Rattle.std.specs.Prelude.{ℕ, List}

pub data RegLan : Type 0 where
  -- re.none: no word
  re_none : RegLan
  -- re.all: every word
  re_all : RegLan
  -- re.allchar: the words of one character
  re_allchar : RegLan
  -- str.to_re: the word alone
  re_word : List ℕ → RegLan
  -- re.++
  re_concat : RegLan → RegLan → RegLan
  re_union : RegLan → RegLan → RegLan
  re_inter : RegLan → RegLan → RegLan
  re_diff : RegLan → RegLan → RegLan
  -- re.*
  re_star : RegLan → RegLan
  -- re.+
  re_plus : RegLan → RegLan
  re_opt : RegLan → RegLan
  re_comp : RegLan → RegLan
  -- re.range: the one-character words between two such words
  re_range : List ℕ → List ℕ → RegLan
  -- (_ re.^ n)
  re_power : RegLan → ℕ → RegLan
  -- (_ re.loop n m)
  re_loop : RegLan → ℕ → ℕ → RegLan
