-- Private: pairs of regexes to which a common word leads from a first pair.
use Rattle.std.specs.Prelude.{◌≡◌, ◌≢◌, ◌⊎◌, ℕ, ◌+◌, ◌<◌, ◌≤◌, Bool, true, nat_eq, ◌&&◌, ◌||◌, List, ◌++◌, length, get_or, drop}
use Rattle.std.specs.List.{list_any}
use Rattle.sb_word.specs.Words.{is_character, IsWord}
use Rattle.sb_lang.specs.Regex.{Regex, none}
use Rattle.sb_lang.specs.Derivative.{nullable, nd, nd_along}
use Rattle.sb_regex.specs.Numbered.{regex_at, Names}
use Rattle.sb_deriv.specs.Pieces.{value_at, end_of_characters}
use Rattle.sb_trace.specs.Defining.{first_of}
use Rattle.sb_trace.specs.Reaching.{is_member}

abbrev pub is_pair : ℕ × ℕ → ℕ × ℕ → Bool
is_pair p q = nat_eq p.0 q.0 && nat_eq p.1 q.1

abbrev pub has_pair : List (ℕ × ℕ) → ℕ × ℕ → Bool
has_pair pairs p = list_any (is_pair p) pairs

abbrev pub PairsGrewTo : List (ℕ × ℕ) → List (ℕ × ℕ) → Type 0
PairsGrewTo old new = (more : List (ℕ × ℕ)) × (new ≡ old ++ more)

abbrev pub ArePairsKnown : List Regex → List (ℕ × ℕ) → Type 0
ArePairsKnown rs pairs = (p : ℕ × ℕ) → has_pair pairs p ≡ true → (p.0 < length rs) × (p.1 < length rs)

-- one word leads from the two regexes to those of the pair
pub record IsPairReached (rs : List Regex) (r g : Regex) (p : ℕ × ℕ) : Type 0 where
  pub word : List ℕ
  pub characters : IsWord word
  pub first : Names rs p.0 (nd_along r word)
  pub second : Names rs p.1 (nd_along g word)

abbrev pub ArePairsReached : List Regex → Regex → Regex → List (ℕ × ℕ) → Type 0
ArePairsReached rs r g pairs = (p : ℕ × ℕ) → has_pair pairs p ≡ true → IsPairReached rs r g p

-- one character leads from the two regexes to those of the pair
pub record IsPairStep (rs : List Regex) (a b : Regex) (p : ℕ × ℕ) : Type 0 where
  pub character : ℕ
  pub is : is_character character ≡ true
  pub first : Names rs p.0 (nd a character)
  pub second : Names rs p.1 (nd b character)

-- the new pairs are old ones, or such
abbrev pub AddsSteps : List Regex → Regex → Regex → List (ℕ × ℕ) → List (ℕ × ℕ) → Type 0
AddsSteps rs a b old new = (p : ℕ × ℕ) → has_pair new p ≡ true → (has_pair old p ≡ true) ⊎ IsPairStep rs a b p

-- two regexes are those of some pair
pub record IsPaired (rs : List Regex) (pairs : List (ℕ × ℕ)) (a b : Regex) : Type 0 where
  pub first : ℕ
  pub second : ℕ
  pub there : has_pair pairs (first, second) ≡ true
  pub names_first : Names rs first a
  pub names_second : Names rs second b

-- the derivatives by each character are, but where the second one is none
abbrev pub LeadsToPairs : List Regex → List (ℕ × ℕ) → Regex → Regex → Type 0
LeadsToPairs rs pairs a b =
    (c : ℕ) → is_character c ≡ true → nd b c ≢ none → IsPaired rs pairs (nd a c) (nd b c)

-- those of the pair at a place are
abbrev pub LeadsAt : List Regex → List (ℕ × ℕ) → ℕ → Type 0
LeadsAt rs pairs k =
    LeadsToPairs rs pairs (regex_at rs (get_or pairs k (0, 0)).0) (regex_at rs (get_or pairs k (0, 0)).1)

abbrev pub PairsLeadUpTo : List Regex → List (ℕ × ℕ) → ℕ → Type 0
PairsLeadUpTo rs pairs place = (k : ℕ) → k < place → LeadsAt rs pairs k

-- the regex stands in a pair
abbrev pub IsPartOf : List (ℕ × ℕ) → ℕ → Type 0
IsPartOf pairs n = (p : ℕ × ℕ) × (has_pair pairs p ≡ true) × ((nat_eq n p.0 || nat_eq n p.1) ≡ true)

abbrev pub ArePartsOf : List (ℕ × ℕ) → List ℕ → Type 0
ArePartsOf pairs parts = (n : ℕ) → is_member parts n ≡ true → IsPartOf pairs n

abbrev pub has_parts : List ℕ → ℕ × ℕ → Bool
has_parts parts p = is_member parts p.0 && is_member parts p.1

-- both regexes of the pairs before a place are among the parts
abbrev pub HavePartsUpTo : List ℕ → List (ℕ × ℕ) → ℕ → Type 0
HavePartsUpTo parts pairs place = (k : ℕ) → k < place → has_parts parts (get_or pairs k (0, 0)) ≡ true

-- the regex is the first of the pair, the second of which has the empty word
abbrev pub is_first : List Regex → ℕ → ℕ × ℕ → Bool
is_first rs n p = nat_eq n p.0 && nullable (regex_at rs p.1)

abbrev pub has_first : List Regex → List (ℕ × ℕ) → ℕ → Bool
has_first rs pairs n = list_any (is_first rs n) pairs

-- Two interval maps, and the pairs of their targets.

-- the targets of each character below an end are a pair, but where the second is none
abbrev pub AreMetBelow : List Regex → List (ℕ × ℕ) → List (ℕ × ℕ) → List (ℕ × ℕ) → ℕ → Type 0
AreMetBelow rs first second pairs end = (c : ℕ) → c < end → regex_at rs (value_at second c) ≢ none
    → has_pair pairs (value_at first c, value_at second c) ≡ true

-- the pair is of the targets of a character
abbrev pub IsTargetPair : List (ℕ × ℕ) → List (ℕ × ℕ) → ℕ × ℕ → Type 0
IsTargetPair first second p =
    (c : ℕ) × (is_character c ≡ true) × (p ≡ (value_at first c, value_at second c))

abbrev pub AddsTargets : List (ℕ × ℕ) → List (ℕ × ℕ) → List (ℕ × ℕ) → List (ℕ × ℕ) → Type 0
AddsTargets first second old new =
    (p : ℕ × ℕ) → has_pair new p ≡ true → (has_pair old p ≡ true) ⊎ IsTargetPair first second p

-- the piece at the place has the character
pub record StandsAt (pieces : List (ℕ × ℕ)) (place character : ℕ) : Type 0 where
  pub within : place < length pieces
  pub begins : (get_or pieces place (0, 0)).0 ≤ character
  pub ends : character < first_of end_of_characters (drop (place + 1) pieces)
