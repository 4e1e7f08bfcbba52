-- Private: the set of what a clause denies.
use Rattle.std.specs.Prelude.{◌≡◌, ℕ, ◌==◌, Bool, ◌&&◌, List, slice_get}
use mathlib.Core.Bool.{beq}
use Rattle.sb_solve.specs.Words.{Assumption, AtomOver, Lit, Regex, atoms_in, list_any}
use Rattle.sb_rulebook.specs.Verdicts.{denies}
use Rattle.sb_solve.specs.declared.denying.Claim.{Claim}

-- what an assumption says
abbrev pub claim_of : Assumption → Claim
claim_of a = record { serial = a.0; holds = a.1 }

-- they are one, as `==` finds out
abbrev pub are_equal : Claim → Claim → Bool
are_equal x y = (x.serial == y.serial) && beq x.holds y.holds

-- what the literals deny, over any regexes, and nothing else
abbrev pub AreDenials : List (AtomOver ℕ) → List Lit → (Assumption → Bool) → Type 0
AreDenials atoms ls has = (rs : List Regex) (a : Assumption)
    → has a ≡ list_any (λ l. denies l (slice_get (atoms_in rs atoms) l.atom) a) ls
