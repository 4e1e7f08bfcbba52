-- The number of a term's normal regex, and the constant that a term is.
use Rattle.std.specs.Prelude.{◌≡◌, ℕ, Bool, true, false, List, Option, Some, None}
use Rattle.sb_lang.specs.RegLan.{RegLan}
use Rattle.sb_lang.specs.Regex.{Regex}
use Rattle.sb_lang.specs.Normal.{normal}
use Rattle.sb_regex.specs.Numbered.{Names}
use Rattle.sb_meaning.specs.Terms.{Term, text, constant, apply, str_concat}
use Rattle.sb_meaning.specs.Values.{Valuation}
use Rattle.sb_meaning.specs.Truth.{meaning_of, means_reglan}
use Rattle.sb_script.specs.Brought.{is_regex}

-- The term is a regular expression over words: under every valuation it means one, and the number is of its normal
-- regex.
pub record IsRegexOf (rs : List Regex) (term : Term) (id : ℕ) : Type 0 where
  pub kind : is_regex term ≡ true
  pub reglan : RegLan
  pub means : (v : Valuation) → meaning_of v term ≡ means_reglan reglan
  pub names : Names rs id (normal reglan)

-- no number where the term is no such expression
abbrev pub IsNumberOf : List Regex → Term → Option ℕ → Type 0
IsNumberOf rs term None = is_regex term ≡ false
IsNumberOf rs term (Some id) = IsRegexOf rs term id

-- the term is a constant of sort String
abbrev pub is_text_constant : Term → Bool
is_text_constant (constant serial text) = true
is_text_constant _ = false

-- the term concatenates String terms
abbrev pub is_joined : Term → Bool
is_joined (apply str_concat terms) = true
is_joined _ = false
