-- Private: how far a search has come.
use Rattle.std.specs.Prelude.{◌≡◌, ℕ, ◌+◌, ◌*◌, ◌<◌, ◌≤◌, ◌||◌, ◌⊎◌, Bool, true, false, List, length, Option, MatchOption}
use Rattle.sb_word.specs.Words.{is_character, IsWord}
use Rattle.sb_lang.specs.Regex.{Regex}
use Rattle.sb_lang.specs.Derivative.{nullable, nd, nd_along}
use Rattle.sb_regex.specs.Numbered.{regex_at, Names}
use Rattle.sb_deriv.specs.Faithful.{IsDerivative}
use Rattle.sb_graph.specs.Findings.{is_marked}
use Rattle.sb_graph.specs.Visiting.{visited}
use Rattle.sb_graph.specs.Witness.{GoesOn}
use Rattle.sb_graph.specs.Queue.{Entry, regex_of, has_regex, word_at, GoesBack, AreWords, rank_at}

-- the number stands at a place whose word has at most this rank
pub record StandsBy (es : List Entry) (words : List (List ℕ)) (n : ℕ) (most : ℕ) : Type 0 where
  pub place : ℕ
  pub within : place < length es
  pub is : regex_of es place ≡ n
  pub soon : rank_at words place ≤ most

-- it has a mark, or stands there
abbrev pub IsMetBy : List Bool → List Entry → List (List ℕ) → ℕ → ℕ → Type 0
IsMetBy dead es words n most = (is_marked dead n ≡ true) ⊎ StandsBy es words n most

-- the regex has a number that is met
pub record IsCovered (rs : List Regex) (dead : List Bool) (es : List Entry) (words : List (List ℕ)) (r : Regex)
    (most : ℕ) : Type 0 where
  pub number : ℕ
  pub names : Names rs number r
  pub met : IsMetBy dead es words number most

-- the places are those of regexes along words in the order of their ranks
pub record AreReached (rs : List Regex) (root : ℕ) (es : List Entry) (words : List (List ℕ)) : Type 0 where
  pub back : GoesBack es
  pub words_are : AreWords es words
  pub some : 0 < length es
  pub first : regex_of es 0 ≡ root
  pub characters : (k : ℕ) → k < length es → IsWord (word_at words k)
  pub along : (k : ℕ) → k < length es → Names rs (regex_of es k) (nd_along (regex_at rs root) (word_at words k))
  pub ascending : (j k : ℕ) → j < k → k < length es → rank_at words j < rank_at words k

-- the place is one of a regex without the empty word, and each of its derivatives is met by the word that leads there
pub record IsDone (rs : List Regex) (dead : List Bool) (es : List Entry) (words : List (List ℕ)) (k : ℕ) : Type 0 where
  pub empty_word : nullable (regex_at rs (regex_of es k)) ≡ false
  pub covered : (c : ℕ) → is_character c ≡ true
      → IsCovered rs dead es words (nd (regex_at rs (regex_of es k)) c) (rank_at words k * 0x30000 + c)

-- the places below this one are done
pub record IsSearched (rs : List Regex) (root : ℕ) (dead : List Bool) (es : List Entry) (place : ℕ) : Type 0 where
  pub words : List (List ℕ)
  pub reached : AreReached rs root es words
  pub below : (k : ℕ) → k < place → k < length es → IsDone rs dead es words k
  pub near : place < length es → (j : ℕ) → j < length es → rank_at words j < rank_at words place * 0x30000

-- the number stands at a place below this one
pub record IsTaken (es : List Entry) (place n : ℕ) : Type 0 where
  pub at : ℕ
  pub before : at < place
  pub within : at < length es
  pub is : regex_of es at ≡ n

-- the places below this one are done, and what was expanded behind the old list stands there
pub record HasCome (rs : List Regex) (root : ℕ) (dead : List Bool) (es : List Entry) (place : ℕ) (old new : List ℕ)
    : Type 0 where
  pub searched : IsSearched rs root dead es place
  pub taken : GoesOn (IsTaken es place) old new
  pub within : place ≤ length es

-- the places below one are done, and the regexes up to another one are without the empty word
pub record IsUnderWay (rs : List Regex) (root : ℕ) (dead : List Bool) (es : List Entry) (place tested : ℕ)
    (old new : List ℕ) : Type 0 where
  pub searched : IsSearched rs root dead es place
  pub taken : GoesOn (IsTaken es place) old new
  pub ahead : place ≤ tested
  pub within : tested ≤ length es
  pub empty_words : (k : ℕ) → k < tested → nullable (regex_at rs (regex_of es k)) ≡ false

-- the search has met a regex with the empty word, and no place before it has one
pub record IsFound (rs : List Regex) (root : ℕ) (dead : List Bool) (es : List Entry) (old new : List ℕ) (place : ℕ)
    : Type 0 where
  pub done : ℕ
  pub searched : IsSearched rs root dead es done
  pub taken : GoesOn (IsTaken es done) old new
  pub after : done ≤ place
  pub within : place < length es
  pub before : (k : ℕ) → k < place → nullable (regex_at rs (regex_of es k)) ≡ false
  pub empty_word : nullable (regex_at rs (regex_of es place)) ≡ true

-- the search has met one, or has come to the end
abbrev pub IsSearchEnd : List Regex → ℕ → List Bool → List Entry → List ℕ → List ℕ → Option ℕ → Type 0
IsSearchEnd rs root dead es old new result =
    MatchOption result (IsSearched rs root dead es (length es)) (λ place. IsFound rs root dead es old new place)

-- the new queue has the targets of the regex's derivative
pub record IsVisited (rs : List Regex) (r : Regex) (dead : List Bool) (place : ℕ) (old new : List Entry) : Type 0 where
  pub pieces : List (ℕ × ℕ)
  pub derivative : IsDerivative rs r pieces
  pub is : new ≡ visited dead place old pieces

-- the new marks are the old ones and those of the queue
abbrev pub AreMarked : List Bool → List Entry → List Bool → Type 0
AreMarked old es new = (n : ℕ) → is_marked new n ≡ (is_marked old n || has_regex es n)
