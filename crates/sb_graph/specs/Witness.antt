-- What an exploration says of a language, and which regexes it expands.
use Rattle.std.specs.Prelude.{◌≡◌, ℕ, Bool, true, List, ◌++◌, length, All, Result, Ok, Err}
use Rattle.std.specs.Ordering.{nat_cmp, ordering_then}
use Rattle.std.specs.Cmp.Lexicographic.{slice_cmp}
use Rattle.std.specs.declared.cmp.Ordering.{Ordering}
use Rattle.std.specs.declared.cmp.Ordering.TheVariants.{Less}
use Rattle.sb_word.specs.Words.{IsWord}
use Rattle.sb_lang.specs.Regex.{Regex}
use Rattle.sb_lang.specs.Derivative.{nd_along}
use Rattle.sb_regex.specs.Numbered.{Names}
use Rattle.sb_lang.specs.Languages.{Language}
use Rattle.sb_lang.specs.Least.{IsShortestLeast, HasNoWord}
use Rattle.sb_graph.specs.declared.graph.Explored.{Explored}
use Rattle.sb_graph.specs.declared.graph.Explored.TheVariants.{Alive, Dead}
use Rattle.sb_graph.specs.declared.graph.Within.{Within}
use Rattle.sb_graph.specs.declared.graph.Within.TheVariants.{Found, Limit}
use Rattle.sb_graph.specs.Findings.{is_marked}

-- the answer is right for the language
abbrev pub IsFinding : Language → Explored → Type 0
IsFinding L (Alive w) = IsShortestLeast L w
IsFinding L Dead = HasNoWord L

-- what is said of the answer, where there is one
abbrev pub IfFound : Within → (Explored → Type 0) → Type 0
IfFound (Found explored) P = P explored
IfFound Limit P = Unit {0}

-- the number has a mark where the answer is that there is no word
abbrev pub MarksDead : List Bool → ℕ → Explored → Type 0
MarksDead dead n (Alive w) = Unit {0}
MarksDead dead n Dead = is_marked dead n ≡ true

-- words in order: by length, and those as long by code points
abbrev pub shortlex : List ℕ → List ℕ → Ordering
shortlex v w = ordering_then (nat_cmp (length v) (length w)) (slice_cmp nat_cmp v w)

-- the word comes before the one that was found, if one was
abbrev pub ComesBefore : {E : Type 0} → List ℕ → Result Explored E → Type 0
ComesBefore v (Ok (Alive w)) = shortlex v w ≡ Less
ComesBefore v (Ok Dead) = Unit {0}
ComesBefore v (Err _) = Unit {0}

-- the word comes before each word of the language
abbrev pub Precedes : Language → List ℕ → Type 0
Precedes L v = (w : List ℕ) → IsWord w → L w ≡ true → shortlex v w ≡ Less

-- a word, such as is wanted, leads from the regex to that of the number
pub record IsReachedBy (rs : List Regex) (r : Regex) (P : List ℕ → Type 0) (n : ℕ) : Type 0 where
  pub word : List ℕ
  pub characters : IsWord word
  pub along : Names rs n (nd_along r word)
  pub wanted : P word

-- the new list goes on from the old one with numbers that have the property
pub record GoesOn (P : ℕ → Type 0) (old new : List ℕ) : Type 0 where
  pub more : List ℕ
  pub is : new ≡ old ++ more
  pub each : All P more
