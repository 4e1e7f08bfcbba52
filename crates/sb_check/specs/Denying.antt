-- Private: literals of a proof that deny assumptions.
use Rattle.std.specs.Prelude.{◌==◌, ℕ, Bool, false, not, ◌&&◌, List, slice_get, Option, Some, None}
use Rattle.std.specs.List.{list_any}
use mathlib.Core.Bool.{beq}
use Rattle.sb_lit.specs.declared.clause.Lit.{Lit}
use Rattle.sb_script.specs.State.{Assumption}
use Rattle.sb_rulebook.specs.Atoms.{AtomOver, bool_atom}

-- the assumptions are one, as `==` finds out
abbrev pub are_equal : Assumption → Assumption → Bool
are_equal a b = (a.0 == b.0) && beq a.1 b.1

-- it is one of these
abbrev pub is_given : List Assumption → Assumption → Bool
is_given assumptions a = list_any (λ b. are_equal b a) assumptions

-- the constant whose truth the atom is, if it is one's
abbrev pub constant_in : Option (AtomOver ℕ) → Option ℕ
constant_in (Some (bool_atom serial)) = Some serial
constant_in _ = None

-- the literal, whose atom is the truth of the constant, denies an assumption that passes
abbrev pub denies_by : (Assumption → Bool) → Lit → Option ℕ → Bool
denies_by test l None = false
denies_by test l (Some serial) = test (serial, not l.positive)

-- the literal denies an assumption that passes
abbrev pub denies_in : (Assumption → Bool) → List (AtomOver ℕ) → Lit → Bool
denies_in test atoms l = denies_by test l (constant_in (slice_get atoms l.atom))
