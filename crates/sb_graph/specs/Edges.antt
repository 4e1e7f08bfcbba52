-- Private: edges as pairs of a character and a number, and how what they lead to is put into a queue.
use Rattle.std.specs.Prelude.{◌≡◌, ℕ, ◌<◌, ◌≤◌, Bool, true, List, [], ◌∷◌, ◌++◌, length, get_or, All, Contains}
use Rattle.sb_word.specs.Words.{is_character}
use Rattle.sb_lang.specs.Regex.{Regex}
use Rattle.sb_lang.specs.Constructors.{mkcat}
use Rattle.sb_lang.specs.Language.{language}
use Rattle.sb_regex.specs.Numbered.{regex_at}
use Rattle.sb_members.specs.Members.{IsSplit}
use Rattle.sb_members.specs.Starts.{front}
use Rattle.sb_graph.specs.Queue.{Entry, with_each}

-- the edges ascend from a number on
abbrev pub AreRising : ℕ → List (ℕ × ℕ) → Type 0
AreRising n [] = Unit {0}
AreRising n (e ∷ edges) = (n ≤ e.0) × AreRising e.0 edges

-- an edge of the list that begins at or below the character leads to the word
pub record HasEdge (rs : List Regex) (edges : List (ℕ × ℕ)) (c : ℕ) (u : List ℕ) : Type 0 where
  pub edge : ℕ × ℕ
  pub among : Contains edges edge
  pub known : edge.1 < length rs
  pub soon : edge.0 ≤ c
  pub has : language (regex_at rs edge.1) u ≡ true

-- the edge leads from the number
pub record IsEdgeFrom (rs : List Regex) (L : List ℕ → Bool) (e : ℕ × ℕ) : Type 0 where
  pub character : is_character e.0 ≡ true
  pub known : e.1 < length rs
  pub rests : (u : List ℕ) → language (regex_at rs e.1) u ≡ true → L (e.0 ∷ u) ≡ true

-- the edges have all words that the language has behind a character, and no others
pub record AreEdges (rs : List Regex) (L : List ℕ → Bool) (edges : List (ℕ × ℕ)) : Type 0 where
  pub sound : All (IsEdgeFrom rs L) edges
  pub whole : (c : ℕ) (u : List ℕ) → is_character c ≡ true → L (c ∷ u) ≡ true → HasEdge rs edges c u

-- the edge leads to what the regex of a piece and the rest make
pub record IsBehind (rs : List Regex) (pieces : List (ℕ × ℕ)) (t : ℕ) (e : ℕ × ℕ) : Type 0 where
  pub piece : ℕ × ℕ
  pub among : Contains pieces piece
  pub same : e.0 ≡ piece.0
  pub known : e.1 < length rs
  pub is : regex_at rs e.1 ≡ mkcat (regex_at rs piece.1) (regex_at rs t)

-- one edge more, unless the regex has no word
pub record IsPushed (rs : List Regex) (c : ℕ) (r : Regex) (old new : List (ℕ × ℕ)) : Type 0 where
  pub more : List (ℕ × ℕ)
  pub is : new ≡ old ++ more
  pub each : All (λ e. (e.0 ≡ c) × (e.1 < length rs) × (regex_at rs e.1 ≡ r)) more
  pub has : (u : List ℕ) → language r u ≡ true → HasEdge rs more c u

-- the edges of the pieces up to a place more
pub record ArePushed (rs : List Regex) (pieces : List (ℕ × ℕ)) (t upto : ℕ) (old new : List (ℕ × ℕ)) : Type 0 where
  pub more : List (ℕ × ℕ)
  pub is : new ≡ old ++ more
  pub each : All (IsBehind rs pieces t) more
  pub has : (k : ℕ) (d : ℕ × ℕ) → k < upto → k < length pieces → (u : List ℕ)
      → language (mkcat (regex_at rs (get_or pieces k d).1) (regex_at rs t)) u ≡ true
      → HasEdge rs more (get_or pieces k d).0 u

-- the edges from a start more
pub record AreFrom (rs : List Regex) (n : ℕ) (old new : List (ℕ × ℕ)) : Type 0 where
  pub more : List (ℕ × ℕ)
  pub is : new ≡ old ++ more
  pub each : All (IsEdgeFrom rs (language (regex_at rs n))) more
  pub has : (c : ℕ) (u : List ℕ) → is_character c ≡ true → front (regex_at rs n) c u ≡ true → HasEdge rs more c u

-- the edges from the starts below a place
pub record AreGathered (rs : List Regex) (ns : List ℕ) (upto : ℕ) (edges : List (ℕ × ℕ)) : Type 0 where
  pub each : All (λ e. (n : ℕ) × Contains ns n × IsEdgeFrom rs (language (regex_at rs n)) e) edges
  pub has : (k d : ℕ) → k < upto → k < length ns → (c : ℕ) (u : List ℕ) → is_character c ≡ true
      → front (regex_at rs (get_or ns k d)) c u ≡ true → HasEdge rs edges c u

-- the new queue has the members of a split of the regex
pub record IsPut (rs : List Regex) (t : ℕ) (way : ℕ × ℕ) (old new : List Entry) : Type 0 where
  pub members : List ℕ
  pub split : IsSplit rs t members
  pub is : new ≡ with_each way old members

-- and those of each edge
abbrev pub Puts : List Regex → ℕ → List (ℕ × ℕ) → List Entry → List Entry → Type 0
Puts rs place [] old new = new ≡ old
Puts rs place (e ∷ edges) old new =
    (between : List Entry) × IsPut rs e.1 (place, e.0) old between × Puts rs place edges between new
