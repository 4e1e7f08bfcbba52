-- The regexes in which words begin, and the heads of these.
use Rattle.std.specs.Prelude.{◌≡◌, ℕ, ◌<◌, Bool, true, false, List, ◌∷◌, length, All, Contains}
use Rattle.sb_lang.specs.Regex.{Regex, Regexes, cat, alt, no_more, more}
use Rattle.sb_lang.specs.Constructors.{mkcat}
use Rattle.sb_lang.specs.Derivative.{nullable, nd}
use Rattle.sb_lang.specs.Language.{language}
use Rattle.sb_regex.specs.Numbered.{regex_at, AllNumbers}
use Rattle.sb_members.specs.Members.{in_some}

-- the regex has a number in the list
pub record HasNumber (rs : List Regex) (ns : List ℕ) (r : Regex) : Type 0 where
  pub number : ℕ
  pub among : Contains ns number
  pub is : regex_at rs number ≡ r

abbrev pub EachHasNumber : List Regex → List ℕ → Regexes → Type 0
EachHasNumber rs ns no_more = Unit {0}
EachHasNumber rs ns (more r ps) = HasNumber rs ns r × EachHasNumber rs ns ps

-- what stands behind a head with the empty word is in the list, and so are the members of a union
unfoldable pub IsPassed : List Regex → List ℕ → Regex → Type 0
IsPassed rs ns (cat h t) = nullable h ≡ true → HasNumber rs ns t
IsPassed rs ns (alt ps) = EachHasNumber rs ns ps
IsPassed rs ns r = Unit {0}

-- the numbers are those in which the words of the states begin
pub record AreStarts (rs : List Regex) (states ns : List ℕ) : Type 0 where
  pub known : AllNumbers rs ns
  pub all : All (Contains ns) states
  pub within : All (λ n. (u : List ℕ) → language (regex_at rs n) u ≡ true → in_some rs states u ≡ true) ns
  pub passed : All (λ n. IsPassed rs ns (regex_at rs n)) ns

-- whether the word stands behind the character and the first head: a union has its words in its members
unfoldable pub front : Regex → ℕ → List ℕ → Bool
front (cat h t) c u = language (mkcat (nd h c) t) u
front (alt ps) c u = false
front r c u = language r (c ∷ u)

-- the regex's words behind a character are those of the head's derivative and the rest
pub record IsFront (rs : List Regex) (n h t : ℕ) : Type 0 where
  pub head : h < length rs
  pub rest : t < length rs
  pub sound : (c : ℕ) (u : List ℕ) → language (mkcat (nd (regex_at rs h) c) (regex_at rs t)) u ≡ true
      → language (regex_at rs n) (c ∷ u) ≡ true
  pub whole : (c : ℕ) (u : List ℕ) → front (regex_at rs n) c u ≡ true
      → language (mkcat (nd (regex_at rs h) c) (regex_at rs t)) u ≡ true
