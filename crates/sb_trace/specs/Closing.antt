-- Private: regexes that are closed under derivatives, but for those that are dead in a proof.
use Rattle.std.specs.Prelude.{◌≡◌, ℕ, ◌+◌, ◌<◌, ◌≤◌, Bool, true, not, ◌&&◌, ◌||◌, List, ◌++◌, get_or, Some}
use Rattle.std.specs.List.{list_all}
use Rattle.sb_lang.specs.Regex.{Regex}
use Rattle.sb_lit.specs.Budgets.{Spending}
use Rattle.sb_regex.specs.Numbered.{Extends}
use Rattle.sb_deriv.specs.Faithful.{Memo, KeepsEntries, entry_of}
use Rattle.sb_deriv.specs.Pieces.{targets_of}
use Rattle.sb_graph.specs.Findings.{Findings, IsGraph, is_marked}
use Rattle.sb_trace.specs.Reaching.{is_member}
use Rattle.sb_trace.specs.Tracking.{Traced, StaysNumbered, IsExpandedIn, is_dead_in}

-- the regex is a member, or dead in the proof
abbrev pub is_settled_in : Traced → List ℕ → ℕ → Bool
is_settled_in t members n = is_member members n || is_dead_in t n

-- the regex has a mark, and is not dead in the proof
abbrev pub is_unburied : List Bool → Traced → ℕ → Bool
is_unburied marks t n = is_marked marks n && not (is_dead_in t n)

-- the regex is expanded in the proof, and what it leads to is a member or dead there
pub record IsClosedIn (memo : Memo) (t : Traced) (members : List ℕ) (n : ℕ) : Type 0 where
  pub expanded : IsExpandedIn t n
  pub pieces : List (ℕ × ℕ)
  pub derivative : entry_of memo n ≡ Some pieces
  pub settled : list_all (is_settled_in t members) (targets_of pieces) ≡ true

-- the members before a place are
abbrev pub AreClosedUpTo : Memo → Traced → List ℕ → ℕ → Type 0
AreClosedUpTo memo t members place = (k : ℕ) → k < place → IsClosedIn memo t members (get_or members k 0)

-- the regex is a member, or dead in the proof, where those are passed over
abbrev pub is_met : Bool → Traced → List ℕ → ℕ → Bool
is_met skips t members n = is_member members n || (skips && is_dead_in t n)

-- what the regex leads to is met
pub record IsLed (memo : Memo) (skips : Bool) (t : Traced) (members : List ℕ) (n : ℕ) : Type 0 where
  pub pieces : List (ℕ × ℕ)
  pub derivative : entry_of memo n ≡ Some pieces
  pub met : list_all (is_met skips t members) (targets_of pieces) ≡ true

-- that of the members before a place is
abbrev pub AreLedUpTo : Memo → Bool → Traced → List ℕ → ℕ → Type 0
AreLedUpTo memo skips t members place = (k : ℕ) → k < place → IsLed memo skips t members (get_or members k 0)

-- A budget spent so many steps.
pub record HasSpent (old new : Spending) (steps : ℕ) : Type 0 where
  pub spent : new.spent ≡ old.spent + steps
  pub limit : new.limit ≡ old.limit
  pub room : 0 < steps → new.spent ≤ new.limit

abbrev pub GrewTo : List ℕ → List ℕ → Type 0
GrewTo old new = (more : List ℕ) × (new ≡ old ++ more)

-- What becomes of an arena, a graph and a trace while lines are put: all that was known stays known, and nothing more
-- is dead.
pub record GoesOn (rs new : List Regex) (g h : Findings) (t u : Traced) : Type 0 where
  pub stays : StaysNumbered t u
  pub buried : (n : ℕ) → is_dead_in u n ≡ is_dead_in t n
  pub expanded : (n : ℕ) → IsExpandedIn t n → IsExpandedIn u n
  pub extends : Extends rs new
  pub graph : IsGraph new h
  pub marks : h.dead ≡ g.dead
  pub derivatives : KeepsEntries g.memo h.memo
