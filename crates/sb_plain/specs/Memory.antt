-- What is remembered of regexes by their numbers, and when it is right for the regexes of an arena.
use Rattle.std.specs.Prelude.{◌≡◌, ℕ, ◌<◌, ◌≤◌, Bool, false, ◌&&◌, nat_eq, List, Option, Some, None, get_or, slice_get, length, take, drop, option_and_then, All}
use Rattle.std.specs.Map.{lookup}
use Rattle.sb_lang.specs.Regex.{Regex}
use Rattle.sb_lang.specs.Derivative.{nd, nd_along}
use Rattle.sb_lang.specs.Language.{language}
use Rattle.sb_regex.specs.Numbered.{regex_at, Extends, Names}
use Rattle.sb_plain.specs.declared.walked.Stay.{Stay}
use Rattle.sb_plain.specs.CutPoints.{AreCutPoints}

-- lists of points; by number of regex the place of its list; by a number and a character the number of the derivative
abbrev pub Learnt : Type 0
Learnt = List (List ℕ) × (List (Option ℕ) × List ((ℕ × ℕ) × ℕ))

abbrev pub same_pair : ℕ × ℕ → ℕ × ℕ → Bool
same_pair p q = nat_eq p.0 q.0 && nat_eq p.1 q.1

-- the place of a regex's list
abbrev pub place_of : Learnt → ℕ → Option ℕ
place_of m n = get_or m.1.0 n None

-- the list of a regex
abbrev pub points_of : Learnt → ℕ → Option (List ℕ)
points_of m n = option_and_then (slice_get m.0) (place_of m n)

-- the derivative of a regex by a character
abbrev pub derivative_of : Learnt → ℕ → ℕ → Option ℕ
derivative_of m n c = lookup (same_pair (n, c)) m.1.1

-- the list at a place is that of a number's regex
pub record IsRightPlace (rs : List Regex) (m : Learnt) (n k : ℕ) : Type 0 where
  pub number : n < length rs
  pub list : List ℕ
  pub there : slice_get m.0 k ≡ Some list
  pub points : AreCutPoints (regex_at rs n) list

-- each is of a number of the list, and right for that number's regex
pub record LearntIsRight (rs : List Regex) (m : Learnt) : Type 0 where
  pub places : (n k : ℕ) → place_of m n ≡ Some k → IsRightPlace rs m n k
  pub derivatives : (n c t : ℕ) → derivative_of m n c ≡ Some t → (n < length rs) × Names rs t (nd (regex_at rs n) c)

-- characters of a word; regexes by number that do not match them from a place on, and the place
abbrev pub Failed : Type 0
Failed = List ℕ × List (ℕ × ℕ)

-- what stands from the place on is no word of the regex
abbrev pub AreFailed : List Regex → Failed → Type 0
AreFailed rs f = All (λ p. (p.0 < length rs) × (language (regex_at rs p.0) (drop p.1 f.0) ≡ false)) f.1

-- from a place in the characters up to another one the derivative of a number's regex is the same regex
pub record IsStay (rs : List Regex) (n : ℕ) (codes : List ℕ) (s : Stay) : Type 0 where
  pub within : s.to ≤ length codes
  pub names : (p : ℕ) → s.from ≤ p → p ≤ s.to → Names rs s.rest (nd_along (regex_at rs n) (take p codes))

-- characters of a word; regexes by number; and where the walks of these along the word stay, by the same places
abbrev pub Walked : Type 0
Walked = List ℕ × List ℕ × List Stay

-- each stay is right for the regex at its place
abbrev pub AreWalked : List Regex → Walked → Type 0
AreWalked rs w = (i n : ℕ) (s : Stay) → slice_get w.1 i ≡ Some n → slice_get w.2 i ≡ Some s
    → (n < length rs) × IsStay rs n w.0 s

abbrev pub Memory : Type 0
Memory = Learnt × Failed × Walked

pub record IsRight (rs : List Regex) (m : Memory) : Type 0 where
  pub learnt : LearntIsRight rs m.0
  pub failed : AreFailed rs m.1
  pub walked : AreWalked rs m.2

-- more regexes change nothing
abbrev pub RightStays : Type 0
RightStays = (old new : List Regex) (m : Memory) → Extends old new → IsRight old m → IsRight new m
