-- What is known of the regexes of a list, by their numbers: derivatives, marks of those that have no word, words of
-- others, and which were expanded.
use Rattle.std.specs.Prelude.{◌≡◌, ℕ, ◌<◌, Bool, true, false, ◌||◌, nat_eq, List, length, get_or, Option, Some, is_some}
use Rattle.std.specs.Map.{lookup}
use Rattle.sb_word.specs.Words.{is_character}
use Rattle.sb_lang.specs.Regex.{Regex}
use Rattle.sb_lang.specs.Derivative.{nullable, nd}
use Rattle.sb_lang.specs.Language.{language}
use Rattle.sb_lang.specs.Least.{IsShortestLeast}
use Rattle.sb_regex.specs.Numbered.{regex_at, Names}
use Rattle.sb_deriv.specs.Faithful.{Memo, IsFaithful}

-- words by number of regex
abbrev pub Answers : Type 0
Answers = List (ℕ × List ℕ)

pub record Findings : Type 0 where
  pub memo : Memo
  pub dead : List Bool
  pub answers : Answers
  pub expanded : List ℕ

-- the number has a mark
abbrev pub is_marked : List Bool → ℕ → Bool
is_marked dead n = get_or dead n false

abbrev pub answer_of : Answers → ℕ → Option (List ℕ)
answer_of answers n = lookup (nat_eq n) answers

-- it is known whether the regex of the number has a word
abbrev pub is_settled : Findings → ℕ → Bool
is_settled g n = is_marked g.dead n || is_some (answer_of g.answers n)

-- the regex has a number with a mark
pub record HasMark (rs : List Regex) (dead : List Bool) (r : Regex) : Type 0 where
  pub number : ℕ
  pub names : Names rs number r
  pub marked : is_marked dead number ≡ true

-- the number is of a regex without the empty word, whose derivative by each character has a mark
pub record IsBarren (rs : List Regex) (dead : List Bool) (n : ℕ) : Type 0 where
  pub known : n < length rs
  pub empty_word : nullable (regex_at rs n) ≡ false
  pub closed : (c : ℕ) → is_character c ≡ true → HasMark rs dead (nd (regex_at rs n) c)

abbrev pub AreBarren : List Regex → List Bool → Type 0
AreBarren rs dead = (n : ℕ) → is_marked dead n ≡ true → IsBarren rs dead n

-- the word is the one that the regex of the number has first
pub record IsAnswer (rs : List Regex) (n : ℕ) (w : List ℕ) : Type 0 where
  pub known : n < length rs
  pub least : IsShortestLeast (language (regex_at rs n)) w

abbrev pub AreAnswers : List Regex → Answers → Type 0
AreAnswers rs answers = (n : ℕ) (w : List ℕ) → answer_of answers n ≡ Some w → IsAnswer rs n w

-- the derivatives are right, the marks are on regexes that have no word, and the words are right
pub record IsGraph (rs : List Regex) (g : Findings) : Type 0 where
  pub faithful : IsFaithful rs g.memo
  pub barren : AreBarren rs g.dead
  pub answered : AreAnswers rs g.answers

-- the old marks are among the new ones
abbrev pub KeepsMarks : List Bool → List Bool → Type 0
KeepsMarks old new = (n : ℕ) → is_marked old n ≡ true → is_marked new n ≡ true
