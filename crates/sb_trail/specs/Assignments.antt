-- Literals that are true, oldest first, with their decision levels and reasons.
use Rattle.std.specs.Prelude.{◌≡◌, ℕ, ◌+◌, ◌≤◌, Bool, true, false, ◌==◌, nat_le, if◌then◌else◌, List, [], ◌∷◌, find, filter, map, Option, None, option_map, option_and_then, is_none}
use Rattle.sb_lit.specs.declared.clause.ClauseId.{ClauseId}
use Rattle.sb_lit.specs.declared.clause.Lit.{Lit}
use Rattle.sb_lit.specs.Clauses.{is_true_under, is_false_under}
use Rattle.sb_trail.specs.declared.assigned.Assigned.{Assigned}

-- the atoms below `reserved` have a place; `literals` are true, oldest first
pub record Assignments : Type 0 where
  pub reserved : ℕ
  pub literals : List Assigned

-- the entry is of the atom
abbrev pub is_of : ℕ → Assigned → Bool
is_of atom entry = entry.literal.atom == atom

-- the entry of the atom, none where it has no value
abbrev pub entry_of : List Assigned → ℕ → Option Assigned
entry_of entries atom = find (is_of atom) entries

-- the value of the atom: whether its positive literal is true
abbrev pub value_of : List Assigned → ℕ → Option Bool
value_of entries atom = option_map (λ entry. entry.literal.positive) (entry_of entries atom)

-- the level at which the atom got its value
abbrev pub level_of : List Assigned → ℕ → Option ℕ
level_of entries atom = option_map (λ entry. entry.level) (entry_of entries atom)

-- the clause that forced the value of the atom
abbrev pub reason_of : List Assigned → ℕ → Option ClauseId
reason_of entries atom = option_and_then (λ entry. entry.reason) (entry_of entries atom)

-- the literals that are true
abbrev pub held : List Assigned → List Lit
held entries = map (λ entry. entry.literal) entries

-- no literal is both true and false
abbrev pub IsConsistent : List Lit → Type 0
IsConsistent literals = (l : Lit) → is_true_under literals l ≡ true → is_false_under literals l ≡ false

-- the level of the newest entry, and n where there is none
abbrev pub level_after : ℕ → List Assigned → ℕ
level_after n [] = n
level_after n (entry ∷ entries) = level_after entry.level entries

-- the current level
abbrev pub current_level : List Assigned → ℕ
current_level entries = level_after 0 entries

-- the entries of levels up to this one
abbrev pub up_to : ℕ → List Assigned → List Assigned
up_to level entries = filter (λ entry. nat_le entry.level level) entries

-- no atom stands twice
abbrev pub AreDistinct : List Assigned → Type 0
AreDistinct [] = Unit {0}
AreDistinct (entry ∷ entries) = (entry_of entries entry.literal.atom ≡ None) × AreDistinct entries

-- the level of a literal with this reason that stands behind level n: a decision opens the next one
abbrev pub level_behind : ℕ → Option ClauseId → ℕ
level_behind n reason = if is_none reason then n + 1 else n

-- behind level n each decision opens the next level, and each other literal stays on the one before it
abbrev pub AreLevelled : ℕ → List Assigned → Type 0
AreLevelled n [] = Unit {0}
AreLevelled n (entry ∷ entries) = (entry.level ≡ level_behind n entry.reason) × AreLevelled entry.level entries

-- what holds of each trail
pub record IsTrail (trail : Assignments) : Type 0 where
  pub distinct : AreDistinct trail.literals
  -- an atom without a place has no value
  pub reserved : (atom : ℕ) → trail.reserved ≤ atom → entry_of trail.literals atom ≡ None
  pub levelled : AreLevelled 0 trail.literals
