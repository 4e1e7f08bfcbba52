-- Private: how far a walk has come.
use Rattle.std.specs.Prelude.{◌≡◌, ◌≢◌, ℕ, suc, ◌+◌, ◌*◌, ◌<◌, ◌≤◌, true, false, List, ◌∷◌, ◌++◌, length}
use Rattle.sb_word.specs.Words.{is_character, IsWord}
use Rattle.sb_lang.specs.Regex.{Regex}
use Rattle.sb_lang.specs.Derivative.{nullable}
use Rattle.sb_lang.specs.Language.{language}
use Rattle.sb_lang.specs.Languages.{Language}
use Rattle.sb_regex.specs.Numbered.{regex_at}
use Rattle.sb_graph.specs.declared.members.Stop.{Stop}
use Rattle.sb_graph.specs.declared.members.Stop.TheVariants as stop
use Rattle.sb_graph.specs.Queue.{Entry, regex_of, way_of, word_at, GoesBack, AreWords, rank_at}
use Rattle.sb_graph.specs.Members.{AreMany}

-- the language of the state at the first place
abbrev pub first_language : List Regex → List Entry → Language
first_language rs es = language (regex_at rs (regex_of es 0))

-- a state whose word has at most this rank has the word
pub record IsMet (rs : List Regex) (es : List Entry) (words : List (List ℕ)) (u : List ℕ) (most : ℕ) : Type 0 where
  pub place : ℕ
  pub within : place < length es
  pub soon : rank_at words place ≤ most
  pub has : language (regex_at rs (regex_of es place)) u ≡ true

-- the states are reached by words in the order of their ranks, and neighbours with different ways by different words
pub record AreReached (rs : List Regex) (L : Language) (es : List Entry) (words : List (List ℕ)) : Type 0 where
  pub back : GoesBack es
  pub words_are : AreWords es words
  pub some : 0 < length es
  pub starts : (u : List ℕ) → L u ≡ true → language (regex_at rs (regex_of es 0)) u ≡ true
  pub characters : (k : ℕ) → k < length es → IsWord (word_at words k)
  pub known : (k : ℕ) → k < length es → regex_of es k < length rs
  pub rests : (k : ℕ) → k < length es → (u : List ℕ) → language (regex_at rs (regex_of es k)) u ≡ true
      → L (word_at words k ++ u) ≡ true
  pub once : (j k : ℕ) → j < k → k < length es → regex_of es j ≢ regex_of es k
  pub ascending : (j k : ℕ) → j < k → k < length es → rank_at words j ≤ rank_at words k
  pub apart : (k : ℕ) → 0 < k → suc k < length es → way_of es k ≢ way_of es (suc k)
      → rank_at words k < rank_at words (suc k)

-- what the state at the place has behind a character, a state has that is met by then
abbrev pub IsDone : List Regex → List Entry → List (List ℕ) → ℕ → Type 0
IsDone rs es words k = (c : ℕ) → is_character c ≡ true → (u : List ℕ)
    → language (regex_at rs (regex_of es k)) (c ∷ u) ≡ true → IsMet rs es words u (rank_at words k * 0x30000 + c)

-- the places below this one are done
pub record IsSearched (rs : List Regex) (L : Language) (es : List Entry) (place : ℕ) : Type 0 where
  pub words : List (List ℕ)
  pub reached : AreReached rs L es words
  pub below : (k : ℕ) → k < place → k < length es → IsDone rs es words k
  pub near : place < length es → (j : ℕ) → j < length es → rank_at words j < rank_at words place * 0x30000

-- the states behind a run are met, and the old places are as they were
pub record IsTurned (rs : List Regex) (L : Language) (old new : List Entry) (end : ℕ) : Type 0 where
  pub searched : IsSearched rs L new end
  pub stays : (k : ℕ) → k < length old → (k < length new) × (regex_of new k ≡ regex_of old k)

-- the states below a place are without the empty word
abbrev pub AreWithout : List Regex → List Entry → ℕ → Type 0
AreWithout rs es place = (k : ℕ) → k < place → nullable (regex_at rs (regex_of es k)) ≡ false

-- the places below one are done, and the states up to another one are without the empty word
pub record IsUnderWay (rs : List Regex) (L : Language) (es : List Entry) (place tested : ℕ) : Type 0 where
  pub searched : IsSearched rs L es place
  pub ahead : place ≤ tested
  pub within : tested ≤ length es
  pub empty_words : AreWithout rs es tested

-- the walk has met a state with the empty word, and no place before it has one
pub record IsFound (rs : List Regex) (L : Language) (es : List Entry) (place : ℕ) : Type 0 where
  pub done : ℕ
  pub searched : IsSearched rs L es done
  pub after : done ≤ place
  pub within : place < length es
  pub before : AreWithout rs es place
  pub empty_word : nullable (regex_at rs (regex_of es place)) ≡ true

-- all places are done, and no state has the empty word
pub record IsWhole (rs : List Regex) (L : Language) (es : List Entry) : Type 0 where
  pub searched : IsSearched rs L es (length es)
  pub without : AreWithout rs es (length es)

abbrev pub IsStop : List Regex → Language → List Entry → ℕ → Stop → Type 0
IsStop rs L es bound (stop.Nullable place) = IsFound rs L es place
IsStop rs L es bound stop.End = IsWhole rs L es
IsStop rs L es bound stop.Bound = AreMany rs L bound
