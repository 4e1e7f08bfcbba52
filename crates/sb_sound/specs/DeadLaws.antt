-- Expansions are right, and dead regexes have no word; and which are accepted.
use Rattle.std.specs.Prelude.{◌≡◌, ◌↔◌, ◌⊎◌, ℕ, ◌+◌, ◌<◌, true, false, List, [], ◌∷◌, ◌++◌, map, Option, Some, None, Ok, Contains, slice_get}
use Rattle.sb_class.specs.Ranges.{in_ranges, rises_from}
use Rattle.sb_word.specs.Words.{is_character}
use Rattle.sb_lang.specs.Regex.{Regex}
use Rattle.sb_lang.specs.Derivative.{nullable, nd}
use Rattle.sb_rulebook.specs.Lines.{Class}
use Rattle.sb_rulebook.specs.Kept.{AllKept, Asked, targets_in, with_expansion, with_dead, most_counted}
use Rattle.sb_rulebook.specs.RegexRules.{follows_expansion, follows_dead}
use Rattle.sb_sound.specs.MembershipLaws.{AreEmpty}

-- the derivative of the regex by each character is the regex of one of the targets
pub record LeadsOn (known : List Regex) (r : Regex) (targets : List ℕ) (c : ℕ) : Type 0 where
  pub target : ℕ
  pub among : Contains targets target
  pub there : slice_get known target ≡ Some (nd r c)

-- each kept expansion has the derivatives of its regex as its targets
abbrev pub AreRight : List Regex → List (Option (List ℕ)) → Type 0
AreRight known expansions = (id : ℕ) (r : Regex) (targets : List ℕ) → targets_in expansions id ≡ Some targets
    → slice_get known id ≡ Some r → (c : ℕ) → is_character c ≡ true → LeadsOn known r targets c

abbrev pub ExpandedIsRight : Type 0
ExpandedIsRight = (asked : Asked) (kept after : AllKept) (id : ℕ) (classes : List Class)
    → follows_expansion asked kept id classes ≡ Ok after → AreRight kept.regexes kept.expansions
    → AreRight after.regexes after.expansions

abbrev pub DeadStaysEmpty : Type 0
DeadStaysEmpty = (kept after : AllKept) (ids : List ℕ) → follows_dead kept ids ≡ Ok after
    → AreRight kept.regexes kept.expansions → AreEmpty kept.regexes kept.dead → AreEmpty after.regexes after.dead

-- A character is in this class and in no other one, and the class leads to the derivative by it.
pub record LeadsOnce (known : List Regex) (r : Regex) (ks : List Class) (c : ℕ) : Type 0 where
  pub before : List Class
  pub one : Class
  pub behind : List Class
  pub parts : ks ≡ before ++ one ∷ behind
  pub inside : in_ranges one.0 c ≡ true
  pub none_before : (k : Class) → Contains before k → in_ranges k.0 c ≡ false
  pub none_behind : (k : Class) → Contains behind k → in_ranges k.0 c ≡ false
  pub target : slice_get known one.1 ≡ Some (nd r c)

-- The regex is defined, and not expanded before; each class is in its form, and its target defined; and each character
-- leads on once.
pub record IsRightlyExpanded (kept : AllKept) (id : ℕ) (ks : List Class) : Type 0 where
  pub regex : Regex
  pub there : slice_get kept.regexes id ≡ Some regex
  pub new : targets_in kept.expansions id ≡ None
  pub classes : (k : Class) → Contains ks k → rises_from 0 k.0 ≡ true
  pub defined : (k : Class) → Contains ks k → (target : Regex) × (slice_get kept.regexes k.1 ≡ Some target)
  pub right : (c : ℕ) → is_character c ≡ true → LeadsOnce kept.regexes regex ks c

-- The rule accepts these and no others, while fewer lines are counted than the limit allows; the targets are kept, and
-- the line counts.
abbrev pub ExpandedIsExact : Type 0
ExpandedIsExact = (asked : Asked) (kept after : AllKept) (id : ℕ) (ks : List Class)
    → (follows_expansion asked kept id ks ≡ Ok after) ↔ (IsRightlyExpanded kept id ks
    × (kept.counted < most_counted asked)
    × (after ≡ record (with_expansion id (map (λ k. k.1) ks) kept) { counted = kept.counted + 1 }))

-- no number stands twice
abbrev pub StandOnce : List ℕ → Type 0
StandOnce [] = Unit {0}
StandOnce (n ∷ ns) = (Contains ns n → ⊥) × StandOnce ns

-- The regex is defined, and not dead before; it is not nullable; and it is expanded, each of its targets to one of
-- these or to one that is dead before.
pub record MayDie (kept : AllKept) (ids : List ℕ) (id : ℕ) : Type 0 where
  pub regex : Regex
  pub there : slice_get kept.regexes id ≡ Some regex
  pub new : slice_get kept.dead id ≡ Some true → ⊥
  pub no_empty_word : nullable regex ≡ false
  pub targets : List ℕ
  pub expanded : slice_get kept.expansions id ≡ Some (Some targets)
  pub closed : (target : ℕ) → Contains targets target → Contains ids target ⊎ (slice_get kept.dead target ≡ Some true)

-- The rule accepts these and no others, and they are kept as dead.
abbrev pub DeadIsExact : Type 0
DeadIsExact = (kept after : AllKept) (ids : List ℕ)
    → (follows_dead kept ids ≡ Ok after) ↔ (StandOnce ids
    × ((id : ℕ) → Contains ids id → MayDie kept ids id)
    × (after ≡ with_dead ids kept))
