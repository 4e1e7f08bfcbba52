-- Words that are asked for of one constant's memberships.
use Rattle.std.specs.Prelude.{◌≡◌, ℕ, ◌+◌, Bool, true, false, List, length}
use Rattle.sb_clash.specs.Words.{AtomOver, Extends, Findings, HaveRegexesBelow, IsGraph, Lit, Regex}
use Rattle.sb_deriv.specs.Faithful.{KeepsEntries}
use Rattle.sb_graph.specs.Findings.{KeepsMarks}
use Rattle.sb_clash.specs.Literals.{AreAbout, AreClashing, AreFewer}

-- The literals are of memberships of one constant, whose regexes an arena has.
pub record CanBeAsked (rs : List Regex) (found : Findings) (atoms : List (AtomOver ℕ)) (x : ℕ) (ls : List Lit) : Type 0
  where
    pub about : AreAbout atoms x ls
    pub regexes : HaveRegexesBelow (length rs) atoms
    pub graph : IsGraph rs found

-- Regexes and derivatives may be added and regexes marked as dead, and what is known of them is right.
pub record Explores (rs more : List Regex) (old new : Findings) : Type 0 where
  pub extends : Extends rs more
  pub graph : IsGraph more new
  pub derivatives : KeepsEntries old.memo new.memo
  pub marks : KeepsMarks old.dead new.dead

-- One of the literals was left out, or none; those that are left clash.
pub record LeavesOut (rs : List Regex) (found : Findings) (atoms : List (AtomOver ℕ)) (x : ℕ) (old new : List Lit)
    (out : Bool) : Type 0
  where
    pub can : CanBeAsked rs found atoms x new
    pub clash : AreClashing rs atoms new
    pub fewer : AreFewer new old
    pub shorter : out ≡ true → length new + 1 ≡ length old
    pub same : out ≡ false → new ≡ old

-- A few of some literals, which clash.
pub record IsCore (rs : List Regex) (atoms : List (AtomOver ℕ)) (literals few : List Lit) : Type 0 where
  pub fewer : AreFewer few literals
  pub clash : AreClashing rs atoms few
