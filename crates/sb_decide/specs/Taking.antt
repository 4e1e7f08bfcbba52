-- What a check does on its way, and what it finds of constants.
use Rattle.std.specs.Prelude.{◌≡◌, ℕ, ◌+◌, ◌<◌, Bool, ◌==◌, true, false, if◌then◌else◌, List, [], length, map, set, get_or, slice_index_or, Option, Some, None, unwrap_or}
use Rattle.std.specs.List.{All, list_all}
use Rattle.sb_word.specs.Words.{are_characters}
use Rattle.sb_lang.specs.Regex.{Regex}
use Rattle.sb_lang.specs.Least.{IsShortestLeast}
use Rattle.sb_regex.specs.Numbered.{AllNumbers}
use Rattle.sb_meaning.specs.Terms.{Term}
use Rattle.sb_term.specs.declared.assertion.Assertion.{Assertion}
use Rattle.sb_term.specs.declared.term.Serial.{Serial}
use Rattle.sb_script.specs.State.{constants_of, fits, live, live_terms}
use Rattle.sb_script.specs.Fragment.{is_decided}
use Rattle.sb_store.specs.Stores.{Grows, RegexesGrow}
use Rattle.sb_store.specs.declared.store.Store.{Store}
use Rattle.sb_stack.specs.Speaking.{speaks_of}
use Rattle.sb_stack.specs.Stacked.{Stacked, state_of, live_constants, values_at, are_words}
use Rattle.sb_decide.specs.declared.conjuncts.Member.{Member}
use Rattle.sb_decide.specs.declared.decide.Decider.{Decider}
use Rattle.sb_decide.specs.declared.decide.Found.{Found}
use Rattle.sb_decide.specs.declared.decide.Words.{Words}
use Rattle.sb_decide.specs.declared.decide.Words.TheVariants as searched
use Rattle.sb_decide.specs.Conjoined.{Conjoined, conjoined_at, forgotten, is_listed, IsChangedAt, RestSettled}
use Rattle.sb_decide.specs.Deciding.{in_each, word_at}
use Rattle.sb_decide.specs.Members.{AreRooted, IsEmptyAt, IsOther, places_in, words_in}
use Rattle.sb_decide.specs.Knowing.{AreKept, IsTaken, Knows}

-- the words that are kept stay so
abbrev pub StayKept : Decider → Decider → Type 0
StayKept old new = (words : List (List ℕ)) → AreKept old.store.arena old.members.items old.constants.items words
    → (length new.constants.items ≡ length old.constants.items)
    × AreKept new.store.arena new.members.items new.constants.items words

-- all assertions are taken in, and there is room for all constants
abbrev pub HasAll : Decider → Stacked → Type 0
HasAll kept stack =
    (length kept.members.items ≡ length stack.assertions) × (length kept.constants.items ≡ length stack.scope.sorts)

-- the live assertions are decided ones, or one is not
pub record Stands (old new : Decider) (stack : Stacked) (inside : Bool) : Type 0 where
  pub knows : Knows new stack
  pub decided : list_all is_decided (live (state_of stack)) ≡ inside
  pub store : Grows stack.table old.store new.store

-- An assertion that asks for no constant's word alone is taken in by its place.
pub record TakesOther (old new : Decider) : Type 0 where
  pub taken : (ts : List Term) (xs : List Assertion) (a : Assertion) → length old.members.items < length xs
      → a ≡ get_or xs (length old.members.items) a → IsOther ts a → IsTaken old ts xs → IsTaken new ts xs
  pub words : StayKept old new
  pub further : length new.members.items ≡ length old.members.items + 1
  pub same : (new.store ≡ old.store) × (new.fragment ≡ old.fragment)

-- The next assertion is taken in.
pub record TakesIn (old new : Decider) (ts : List Term) (xs : List Assertion) : Type 0 where
  pub taken : IsTaken new ts xs
  pub words : StayKept old new
  pub store : Grows ts old.store new.store
  pub further : length new.members.items ≡ length old.members.items + 1
  pub same : new.fragment ≡ old.fragment

-- words fit the live constants
abbrev pub Fit : Stacked → Type 0
Fit stack = (words : List (List ℕ)) (truths : List Bool) → are_words words ≡ true
    → fits (constants_of (state_of stack)) (values_at (live_constants stack) words truths) ≡ true

-- All assertions are taken in.
pub record TakesAll (old new : Decider) (stack : Stacked) : Type 0 where
  pub knows : Knows new stack
  pub all : HasAll new stack
  pub named : list_all (speaks_of (live_constants stack)) (live_terms (state_of stack)) ≡ true
  pub fit : Fit stack
  pub store : Grows stack.table old.store new.store

-- More regexes, more of them, and more intersections are known.
pub record Searches (ms : List (Option Member)) (old new : Store) (roots : List (Option ℕ)) : Type 0 where
  pub store : RegexesGrow old new
  pub rooted : AreRooted new.arena ms roots

-- the constant without a word, where it is not this one
abbrev pub other_dead : Option Serial → ℕ → Option Serial
other_dead None n = None
other_dead (Some dead) n = if dead.0 == n then None else Some dead

-- the words with this one at the place, or as they are
abbrev pub with_word : List (List ℕ) → ℕ → Option (List ℕ) → List (List ℕ)
with_word words place None = words
with_word words place (Some w) = set words place w

-- the number of a membership's regex
abbrev pub id_of : Option Member → ℕ
id_of None = 0
id_of (Some m) = m.regex

-- the numbers of the regexes at these places
abbrev pub ids_at : List (Option Member) → List ℕ → List ℕ
ids_at ms places = map (λ place. id_of (slice_index_or ms place None)) places

-- The word is in the regexes of the memberships at these places.
pub record IsInEach (rs : List Regex) (ms : List (Option Member)) (places w : List ℕ) : Type 0 where
  pub known : AllNumbers rs (ids_at ms places)
  pub all : in_each rs (ids_at ms places) w ≡ true

-- the word that a constant has by what was found of it, where these are kept
abbrev pub word_of : List (List ℕ) → Found → List ℕ
word_of words found = unwrap_or found.word (word_at words found.serial.0)

-- what was found is of this constant, and gives it its least word
abbrev pub IsFoundAt : List Regex → List (Option Member) → List (List ℕ) → Serial → Found → Type 0
IsFoundAt rs ms words serial found =
    (found.serial ≡ serial) × IsShortestLeast (words_in rs ms found.serial.0) (word_of words found)

-- what was found of a constant
abbrev pub IsFoundOf : List Regex → List (Option Member) → List Conjoined → List (List ℕ) → Found → Type 0
IsFoundOf rs ms cs words found =
    (found.serial.0 < length cs) × IsShortestLeast (words_in rs ms found.serial.0) (word_of words found)

-- each of these constants has its word
pub record AreFound (rs : List Regex) (ms : List (Option Member)) (cs : List Conjoined) (words : List (List ℕ))
    (changed : List Serial) (fs : List Found) : Type 0
  where
    pub each : All (IsFoundOf rs ms cs words) fs
    pub serials : map (λ found. found.serial) fs ≡ changed

-- the words of these constants, or one that has none
abbrev pub AreWords : List Regex → List (Option Member) → List Conjoined → List (List ℕ) → List Serial → Words
    → Type 0
AreWords rs ms cs words changed (searched.Found fs) = AreFound rs ms cs words changed fs.items
AreWords rs ms cs words changed (searched.Dead serial) = IsEmptyAt rs ms serial.0

-- What becomes of the constants as what was found is taken over: these are still to come, and those that are left keep
-- what they have.
pub record IsTakingOver (rs : List Regex) (ms : List (Option Member)) (left : List Serial) (old new : List Conjoined)
    (words : List (List ℕ)) (fs : List Found) : Type 0
  where
    pub same_length : length new ≡ length old
    pub long : length words ≡ length old
    pub each : All (IsFoundOf rs ms old words) fs
    pub places : (n : ℕ) → (conjoined_at new n).places ≡ places_in 0 n ms
    pub settled : RestSettled left (map (λ found. found.serial) fs) new
    pub kept : AreKept rs ms new words

-- All that was found is taken over: each constant has the least word of its memberships, but for those that were left
-- to a search, and that are the ones that changed now.
pub record IsTakenOver (kept new : Decider) (words : List (List ℕ)) : Type 0 where
  pub over :
      IsTakingOver kept.store.arena kept.members.items kept.left.items kept.constants.items new.constants.items words []
  pub changed : new.changed ≡ kept.left
  pub nothing : new.left.items ≡ []
  pub same :
      new ≡ record kept { constants = new.constants; changed = new.changed; left = new.left; found = new.found }

-- the word that a search found of the constant, the empty one where it found none
abbrev pub word_found : List (Option (List ℕ)) → ℕ → List ℕ
word_found found serial = unwrap_or (get_or found serial None) []

-- The constant at the place has this word, which is one of characters, and nothing else is known of it then.
pub record IsPutAt (old new : List Conjoined) (words full : List (List ℕ)) (place : ℕ) (word : List ℕ) : Type 0
  where
    pub constants : IsChangedAt old new place (forgotten (conjoined_at old place))
    pub given : full ≡ set words place word
    pub characters : are_characters word ≡ true

-- Each of these constants has the word that a search found of it, the empty one where it found none, and nothing else
-- is known of it; all others have what they had.
pub record ArePut (old new : List Conjoined) (words full : List (List ℕ)) (serials : List Serial)
    (found : List (Option (List ℕ))) : Type 0
  where
    pub same_length : length new ≡ length old
    pub long : length full ≡ length words
    pub places : (n : ℕ) → (conjoined_at new n).places ≡ (conjoined_at old n).places
    pub given : (n : ℕ) → is_listed serials n ≡ true
        → (word_at full n ≡ word_found found n) × ((conjoined_at new n).known ≡ None)
    pub others : (n : ℕ) → is_listed serials n ≡ false
        → (word_at full n ≡ word_at words n) × (conjoined_at new n ≡ conjoined_at old n)
    pub characters : are_words words ≡ true → are_words full ≡ true
