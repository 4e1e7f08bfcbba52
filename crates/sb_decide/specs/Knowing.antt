-- What is known of a script's assertions so far.
use Rattle.std.specs.Prelude.{◌≡◌, ℕ, ◌≤◌, ◌<◌, true, List, length, take, Option, Some, IfSome}
use Rattle.std.specs.List.{All}
use Rattle.sb_lang.specs.Regex.{Regex}
use Rattle.sb_lang.specs.Least.{IsShortestLeast}
use Rattle.sb_meaning.specs.Terms.{Term}
use Rattle.sb_term.specs.declared.assertion.Assertion.{Assertion}
use Rattle.sb_term.specs.declared.term.Serial.{Serial}
use Rattle.sb_fragment.specs.Inside.{AreInside}
use Rattle.sb_store.specs.Stores.{IsStoreOf}
use Rattle.sb_stack.specs.Stacked.{Stacked, are_words}
use Rattle.sb_decide.specs.declared.decide.Decider.{Decider}
use Rattle.sb_decide.specs.Conjoined.{Conjoined, conjoined_at, RestSettled}
use Rattle.sb_decide.specs.Deciding.{in_each, word_at}
use Rattle.sb_decide.specs.Members.{AreMembers, AreRooted, HasSerialBelow, IsEmptyAt, ids_in, places_in, other_places}
use Rattle.sb_decide.specs.Speaking.{AreHeard}
use Rattle.sb_decide.specs.declared.conjuncts.Member.{Member}

-- the places of a constant's memberships
abbrev pub places_of : Decider → ℕ → List ℕ
places_of kept n = (conjoined_at kept.constants.items n).places

-- The places of each constant's memberships, and of those that are none; constants out of the two lists have their
-- words.
pub record AreCounted (ms : List (Option Member)) (others : List ℕ) (cs : List Conjoined) (left changed : List Serial)
    : Type 0
  where
    pub within : All (HasSerialBelow (length cs)) ms
    pub places : (n : ℕ) → (conjoined_at cs n).places ≡ places_in 0 n ms
    pub apart : others ≡ other_places 0 ms
    pub settled : RestSettled left changed cs
    pub left_listed : All (λ serial. serial.0 < length cs) left
    pub listed : All (λ serial. serial.0 < length cs) changed

-- What is known of the first assertions.
pub record IsTaken (kept : Decider) (ts : List Term) (assertions : List Assertion) : Type 0 where
  pub store : IsStoreOf ts kept.store
  pub members : AreMembers kept.store.arena ts kept.members.items assertions
  pub rooted : AreRooted kept.store.arena kept.members.items kept.roots.items
  pub counted : AreCounted kept.members.items kept.others.items kept.constants.items kept.left.items kept.changed.items
  pub dead : IfSome kept.dead (λ serial. IsEmptyAt kept.store.arena kept.members.items serial.0)
  pub heard : AreHeard ts assertions kept.others.items kept.heard kept.spoken.keys

-- The word is the least one of so many first regexes.
pub record IsLeastOf (rs : List Regex) (ids : List ℕ) (k : ℕ) (w : List ℕ) : Type 0 where
  pub within : k ≤ length ids
  pub least : IsShortestLeast (in_each rs (take k ids)) w

-- The words that are kept, each the least one of the memberships that it is known of.
pub record AreKept (rs : List Regex) (ms : List (Option Member)) (cs : List Conjoined) (words : List (List ℕ))
    : Type 0
  where
    pub characters : are_words words ≡ true
    pub few : length words ≤ length cs
    pub least : (n k : ℕ) → (conjoined_at cs n).known ≡ Some k → IsLeastOf rs (ids_in ms n) k (word_at words n)

-- All of it, of a state.
pub record Knows (kept : Decider) (stack : Stacked) : Type 0 where
  pub inside : AreInside kept.fragment.inside stack.table stack.assertions
  pub taken : IsTaken kept stack.table stack.assertions
  pub words : AreKept kept.store.arena kept.members.items kept.constants.items stack.words
  pub declared : length kept.constants.items ≤ length stack.scope.sorts
