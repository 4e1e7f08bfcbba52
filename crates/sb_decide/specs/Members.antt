-- What was taken in, one for each of the first assertions, and what is known of it. What an assertion asks of a
-- constant's word counts as a membership of the constant here, also where the assertion is an equality with a literal,
-- or the denial of either, which asks for a word of the complement. One that asks for no constant's word alone stands
-- among the others at its place.
use Rattle.std.specs.Prelude.{◌≡◌, ℕ, ◌+◌, ◌<◌, ◌==◌, true, if◌then◌else◌, List, [], ◌∷◌, length, take, Option, Some, None, IfSome, slice_index_or, slice_get}
use Rattle.std.specs.List.{All}
use Rattle.sb_lang.specs.Languages.{Language}
use Rattle.sb_lang.specs.Least.{HasNoWord}
use Rattle.sb_lang.specs.Language.{language}
use Rattle.sb_lang.specs.Regex.{Regex}
use Rattle.sb_regex.specs.Numbered.{regex_at, AllNumbers}
use Rattle.sb_meaning.specs.Terms.{Term}
use Rattle.sb_script.specs.State.{asserted}
use Rattle.sb_problem.specs.Normals.{IsRegexOf}
use Rattle.sb_term.specs.declared.assertion.Assertion.{Assertion}
use Rattle.sb_script.specs.Fragment.{is_decided}
use Rattle.sb_stack.specs.Stacked.{assertion_in, HasNumberBelow}
use Rattle.sb_decide.specs.declared.conjuncts.Member.{Member}
use Rattle.sb_decide.specs.Deciding.{in_each}
use Rattle.sb_decide.specs.Demands.{demanded}

-- The assertion is a decided one, and asks that the constant's word be in a regular expression, of whose normal regex
-- the number is.
pub record IsMember (rs : List Regex) (ts : List Term) (m : Member) (a : Assertion) : Type 0 where
  pub term : Term
  pub wanted : Term
  pub number : HasNumberBelow (length ts) a
  pub is : assertion_in ts a ≡ asserted term
  pub asks : demanded term ≡ Some (m.serial.0, wanted)
  pub decided : is_decided (asserted term) ≡ true
  pub regex : IsRegexOf rs wanted m.regex

-- The assertion is a decided one, and asks nothing of one constant's word alone.
pub record IsOther (ts : List Term) (a : Assertion) : Type 0 where
  pub term : Term
  pub number : HasNumberBelow (length ts) a
  pub is : assertion_in ts a ≡ asserted term
  pub asks : demanded term ≡ None
  pub decided : is_decided (asserted term) ≡ true

-- it is this membership, or none
abbrev pub IsTakenAs : List Regex → List Term → Option Member → Assertion → Type 0
IsTakenAs rs ts None a = IsOther ts a
IsTakenAs rs ts (Some m) a = IsMember rs ts m a

-- the first assertions are these, in order
abbrev pub AreMembers : List Regex → List Term → List (Option Member) → List Assertion → Type 0
AreMembers rs ts [] assertions = Unit {0}
AreMembers rs ts (o ∷ ms) [] = ⊥
AreMembers rs ts (o ∷ ms) (a ∷ assertions) = IsTakenAs rs ts o a × AreMembers rs ts ms assertions

-- the regexes of a constant
abbrev pub ids_in : List (Option Member) → ℕ → List ℕ
ids_in [] n = []
ids_in (None ∷ ms) n = ids_in ms n
ids_in (Some m ∷ ms) n = if n == m.serial.0 then m.regex ∷ ids_in ms n else ids_in ms n

-- their places, where the first of these is at the first place
abbrev pub places_in : ℕ → ℕ → List (Option Member) → List ℕ
places_in place n [] = []
places_in place n (None ∷ ms) = places_in (place + 1) n ms
places_in place n (Some m ∷ ms) =
    if n == m.serial.0 then place ∷ places_in (place + 1) n ms else places_in (place + 1) n ms

-- the places of those that are no memberships
abbrev pub other_places : ℕ → List (Option Member) → List ℕ
other_places place [] = []
other_places place (None ∷ ms) = place ∷ other_places (place + 1) ms
other_places place (Some m ∷ ms) = other_places (place + 1) ms

-- the words that all regexes of a constant have
abbrev pub words_in : List Regex → List (Option Member) → ℕ → Language
words_in rs ms n = in_each rs (ids_in ms n)

-- the constant has no word
abbrev pub IsEmptyAt : List Regex → List (Option Member) → ℕ → Type 0
IsEmptyAt rs ms n = HasNoWord (words_in rs ms n)

-- a membership's regex has its number below this one, and so has its constant
abbrev pub HasRegexBelow : ℕ → Option Member → Type 0
HasRegexBelow n o = IfSome o (λ m. m.regex < n)

abbrev pub HasSerialBelow : ℕ → Option Member → Type 0
HasSerialBelow n o = IfSome o (λ m. m.serial.0 < n)

-- The number is of the intersection of all memberships of the constant.
pub record IsRootOf (rs : List Regex) (ms : List (Option Member)) (n root : ℕ) : Type 0 where
  pub known : root < length rs
  pub same : (w : List ℕ) → words_in rs ms n w ≡ language (regex_at rs root) w

abbrev pub root_at : List (Option ℕ) → ℕ → Option ℕ
root_at roots place = slice_index_or roots place None

-- each root that is known is of its constant's memberships up to its place
abbrev pub AreRoots : List Regex → List (Option Member) → List (Option ℕ) → Type 0
AreRoots rs ms roots = (place : ℕ) (m : Member) (root : ℕ) → slice_get ms place ≡ Some (Some m)
    → root_at roots place ≡ Some root → IsRootOf rs (take (place + 1) ms) m.serial.0 root

-- Regexes have their numbers, and there is a root or none for each assertion that was taken in.
pub record AreRooted (rs : List Regex) (ms : List (Option Member)) (roots : List (Option ℕ)) : Type 0 where
  pub numbers : All (HasRegexBelow (length rs)) ms
  pub abreast : length roots ≡ length ms
  pub right : AreRoots rs ms roots

-- These regexes have the words in common that those of the constant have.
pub record AreConjuncts (rs : List Regex) (ms : List (Option Member)) (n : ℕ) (ids : List ℕ) : Type 0 where
  pub known : AllNumbers rs ids
  pub same : (w : List ℕ) → in_each rs ids w ≡ words_in rs ms n w
