-- Private: members of an intersection that others make needless.
use Rattle.std.specs.Prelude.{◌≡◌, ℕ, ◌<◌, true, ◌&&◌, List, length, All}
use Rattle.std.specs.List.{list_all}
use Rattle.sb_lang.specs.Regex.{Regex, cat}
use Rattle.sb_lang.specs.Language.{language}
use Rattle.sb_lang.specs.Languages.{Language}
use Rattle.sb_regex.specs.Numbered.{regex_at, AllNumbers}
use Rattle.sb_members.specs.Choices.{in_each}

-- each word of the first is one of the second
abbrev pub IsWithin : Language → Language → Type 0
IsWithin L M = (u : List ℕ) → L u ≡ true → M u ≡ true

-- a head that takes up such a regex that stands behind it
abbrev pub TakesUp : Regex → Regex → Type 0
TakesUp h x = (t : Regex) → IsWithin (language (cat h (cat x t))) (language (cat h t))

-- the words are in the concatenation of the two numbers
abbrev pub FollowsFrom : List Regex → Language → ℕ × ℕ → Type 0
FollowsFrom rs L p = IsWithin L (language (cat (regex_at rs p.0) (regex_at rs p.1)))

-- the two numbers are of parts, and the first two follow from the others wherever these do
pub record AreBehind (rs : List Regex) (wide narrow : ℕ) (p : ℕ × ℕ) : Type 0 where
  pub first : p.0 < wide
  pub second : p.1 < narrow
  pub within : IsWithin (language (regex_at rs p.1)) (language (regex_at rs p.0))
      → IsWithin (language (regex_at rs narrow)) (language (regex_at rs wide))

-- the number is of a part, and behind words of the body its words are all those of the whole
pub record IsBehindPart (rs : List Regex) (body at next : ℕ) : Type 0 where
  pub part : next < at
  pub within : IsWithin (language (regex_at rs at)) (language (cat (regex_at rs body) (regex_at rs next)))

-- the pairs follow from whatever the first pair follows from, as long as the old ones do
abbrev pub AreWeaker : List Regex → ℕ × ℕ → List (ℕ × ℕ) → List (ℕ × ℕ) → Type 0
AreWeaker rs p old new =
    (L : Language) → FollowsFrom rs L p → All (FollowsFrom rs L) old → All (FollowsFrom rs L) new

-- the number is of a regex that follows behind the same head
pub record IsNext (rs : List Regex) (head at next : ℕ) : Type 0 where
  pub known : next < length rs
  pub follows : (L : Language) → FollowsFrom rs L (head, at) → FollowsFrom rs L (head, next)

-- the kept numbers have the words of the language, from which the pairs follow
pub record AreKept (rs : List Regex) (kept : List ℕ) (weaker : List (ℕ × ℕ)) (L : Language) : Type 0 where
  pub known : AllNumbers rs kept
  pub same : (u : List ℕ) → in_each rs kept u ≡ L u
  pub follow : All (FollowsFrom rs L) weaker

-- what is kept with one number more
abbrev pub IsTaken : List Regex → ℕ → List ℕ → List (ℕ × ℕ) → List ℕ → List (ℕ × ℕ) → Type 0
IsTaken rs n kept weaker kept' weaker' =
    (L : Language) → AreKept rs kept weaker L → AreKept rs kept' weaker' (λ u. L u && language (regex_at rs n) u)

-- the words of all rows
abbrev pub in_rows : List Regex → List (ℕ × ℕ) → Language
in_rows rs rows u = list_all (λ row. language (regex_at rs row.1) u) rows

-- the rows are these numbers, in some order
pub record AreRows (rs : List Regex) (ns : List ℕ) (rows : List (ℕ × ℕ)) : Type 0 where
  pub known : All (λ row. row.1 < length rs) rows
  pub same : (u : List ℕ) → in_rows rs rows u ≡ in_each rs ns u

-- the numbers have the words of the regex, together
pub record AreNeeded (rs : List Regex) (n : ℕ) (ns : List ℕ) : Type 0 where
  pub known : AllNumbers rs ns
  pub same : (u : List ℕ) → in_each rs ns u ≡ language (regex_at rs n) u
