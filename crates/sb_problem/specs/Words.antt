-- Words: the letters of a literal, or of a concatenation of such.
use Rattle.std.specs.Prelude.{◌≡◌, ℕ, true, nat_le, if◌then◌else◌, List, [], ◌++◌}
use Rattle.sb_word.specs.Words.{IsWord}
use Rattle.sb_meaning.specs.Terms.{Term, Terms, word, apply, no_terms, with_term}
use Rattle.sb_meaning.specs.Terms as symbol
use Rattle.sb_script.specs.Brought.{is_text}

-- the letters of a word, none of another term
abbrev mutual
  pub letters_of : Term → List ℕ
  letters_of (word w) = w
  letters_of (apply symbol.str_concat terms) = letters_of_each terms
  letters_of _ = []

  pub letters_of_each : Terms → List ℕ
  letters_of_each no_terms = []
  letters_of_each (with_term term terms) = letters_of term ++ letters_of_each terms

-- a count of letters, up to the least one past the limit
abbrev pub up_to_limit : ℕ → ℕ
up_to_limit n = if nat_le n 65535 then n else 65536

-- the term is a word of these letters, which are characters
pub record AreLetters (t : Term) (letters : List ℕ) : Type 0 where
  pub kind : is_text t ≡ true
  pub are : letters ≡ letters_of t
  pub written : IsWord letters
