-- What is kept of terms by number.
use Rattle.std.specs.Prelude.{◌≡◌, ℕ, ◌<◌, ◌≤◌, ◌==◌, Bool, true, false, not, List, Option, Some, None, length, get_or, All}
use Rattle.std.specs.List.{list_all}
use Rattle.sb_problem.specs.declared.normals.Known.{Known}
use Rattle.sb_problem.specs.declared.normals.Known.TheVariants as known
use Rattle.sb_lang.specs.Regex.{Regex}
use Rattle.sb_meaning.specs.Terms.{Term, Terms, terms_of, apply, re_concat}
use Rattle.sb_script.specs.Brought.{is_regex, is_text}
use Rattle.sb_script.specs.Sizes.{size_of}
use Rattle.sb_term.specs.Numbered.{term_at, terms_at}
use Rattle.sb_problem.specs.Patterns.{literal_of}
use Rattle.sb_problem.specs.Shapes.{IsNumbered, arguments_in}
use Rattle.sb_problem.specs.Words.{up_to_limit}

-- The term is a regular expression over words that concatenates others.
pub record IsConcatenation (t : Term) : Type 0 where
  pub kind : is_regex t ≡ true
  pub parts : Terms
  pub is : t ≡ apply re_concat parts

-- the term is a word of so many letters, or it is no word
abbrev pub IsTextBy : Term → Option ℕ → Type 0
IsTextBy t None = is_text t ≡ false
IsTextBy t (Some count) = (is_text t ≡ true) × (count ≡ up_to_limit (size_of t))

-- what is known is so
abbrev pub IsKnown : List Regex → Term → Known → Type 0
IsKnown rs t known.Nothing = ⊥
IsKnown rs t known.Other = (is_regex t ≡ false) × (is_text t ≡ false)
IsKnown rs t known.Concatenation = IsConcatenation t
IsKnown rs t (known.Made id) = IsNumbered rs t (Some id)
IsKnown rs t (known.Text count) = IsTextBy t (Some count)
IsKnown rs t (known.Spelled id count) = IsTextBy t (Some count) × IsNumbered rs (literal_of t) (Some id)

abbrev pub known_from : Option ℕ → Known
known_from (Some id) = known.Made id
known_from None = known.Other

abbrev pub is_something : Known → Bool
is_something known.Nothing = false
is_something known.Other = true
is_something known.Concatenation = true
is_something (known.Made id) = true
is_something (known.Text count) = true
is_something (known.Spelled id count) = true

abbrev pub is_other : Known → Bool
is_other known.Nothing = true
is_other known.Other = true
is_other known.Concatenation = false
is_other (known.Made id) = false
is_other (known.Text count) = true
is_other (known.Spelled id count) = true

abbrev pub is_concatenation : Known → Bool
is_concatenation known.Nothing = false
is_concatenation known.Other = false
is_concatenation known.Concatenation = true
is_concatenation (known.Made id) = false
is_concatenation (known.Text count) = false
is_concatenation (known.Spelled id count) = false

-- how many letters the word has, where it is known to be one
abbrev pub count_known : Known → Option ℕ
count_known known.Nothing = None
count_known known.Other = None
count_known known.Concatenation = None
count_known (known.Made id) = None
count_known (known.Text count) = Some count
count_known (known.Spelled id count) = Some count

-- it is known to be a word without letters
abbrev pub is_silent : Known → Bool
is_silent known.Nothing = false
is_silent known.Other = false
is_silent known.Concatenation = false
is_silent (known.Made id) = false
is_silent (known.Text count) = count == 0
is_silent (known.Spelled id count) = count == 0

-- something is known of the term of this number
abbrev pub is_known : List Known → ℕ → Bool
is_known ks i = is_something (get_or ks i known.Nothing)

-- the number of each argument of a term passes
abbrev pub PartsPass : List Term → (ℕ → Bool) → ℕ → Type 0
PartsPass ts test i = (is : List ℕ) → terms_of (terms_at ts is) ≡ arguments_in (term_at ts i) → All (λ j. j < i) is
    → list_all test is ≡ true

-- what is known of terms in a table, and that the arguments of a concatenation are known whose regex is not made
pub record AreNormals (ts : List Term) (rs : List Regex) (ks : List Known) : Type 0 where
  pub short : length ks ≤ length ts
  pub each : (i : ℕ) → is_known ks i ≡ true → IsKnown rs (term_at ts i) (get_or ks i known.Nothing)
  pub parts : (i : ℕ) → is_concatenation (get_or ks i known.Nothing) ≡ true → PartsPass ts (is_known ks) i

-- which of the terms that are known are words, and of how many letters
abbrev pub AreTexts : List Term → List Known → Type 0
AreTexts ts ks = (i : ℕ) → is_known ks i ≡ true → IsTextBy (term_at ts i) (count_known (get_or ks i known.Nothing))

-- which of the terms that are known are regular expressions over words
abbrev pub AreTold : List Term → List Known → Type 0
AreTold ts ks = (i : ℕ) → is_known ks i ≡ true
    → is_regex (term_at ts i) ≡ not (is_other (get_or ks i known.Nothing))

-- What was known stays known.
pub record KnowsMore (old new : List Known) : Type 0 where
  pub long : length new ≡ length old
  pub kept : (i : ℕ) → is_known old i ≡ true → is_known new i ≡ true
