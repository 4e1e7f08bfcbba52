-- Clauses by rule linear are true, and which clauses they are.
use Rattle.std.specs.Prelude.{◌≡◌, ◌↔◌, ◌⊎◌, ℕ, ℤ, pos, ◌+ℤ◌, ◌≤ℤ◌, Bool, true, false, List, [], ◌∷◌, ◌++◌, filter, slice_get, Option, Some, None, Contains}
use Rattle.std.specs.Int.Signed.{◌<ℤ◌}
use Rattle.sb_lit.specs.declared.clause.Lit.{Lit}
use Rattle.sb_meaning.specs.Values.{Valuation}
use Rattle.sb_rulebook.specs.Atoms.{Atom, le_atom, sum_atom, clause_holds}
use Rattle.sb_rulebook.specs.Gates.{atom_of}
use Rattle.sb_rulebook.specs.BoundClauses.{is_linear, is_sum_bound, is_bound, bounds_denied}
use Rattle.sb_script.specs.Sums.{Variable, Summand}
use Rattle.sb_script.specs.Bounds.{Bound, at_least, at_most, lowest, lower_in, upper_in, least_sum, greatest_sum}
use Rattle.sb_sound.specs.ClauseForms.{of_sign, plus, minus}

abbrev pub LinearHolds : Type 0
LinearHolds = (v : Valuation) (atoms : List Atom) (clause : List Lit) → is_linear atoms clause ≡ true
    → clause_holds v atoms clause ≡ true

-- one literal is of a sum, and each other one of a bound
pub record HasOneSum (atoms : List Atom) (clause : List Lit) : Type 0 where
  pub sum : Lit
  pub one : filter (λ l. is_sum_bound (atom_of atoms l)) clause ≡ sum ∷ []
  pub others : (l : Lit) → Contains clause l → is_sum_bound (atom_of atoms l) ≡ false
      → is_bound (atom_of atoms l) ≡ true

abbrev pub LinearHasOneSum : Type 0
LinearHasOneSum = (atoms : List Atom) (clause : List Lit) → is_linear atoms clause ≡ true → HasOneSum atoms clause

-- the literal is of the bound of a variable
pub record IsOfBound (atoms : List Atom) (l : Lit) : Type 0 where
  pub variable : Variable
  pub number : ℤ
  pub there : slice_get atoms l.atom ≡ Some (le_atom variable number)

-- By bounds the literal of this sign, that a sum is at most k, is true: the greatest value of the sum is at most k, or
-- the least value is above k.
abbrev pub IsForced : List Bound → Bool → ℤ → List Summand → Type 0
IsForced bounds true k ss = (n : ℤ) × (greatest_sum bounds ss ≡ Some n) × (n ≤ℤ k)
IsForced bounds false k ss = (n : ℤ) × (least_sum bounds ss ≡ Some n) × (k <ℤ n)

-- One literal is of a sum, each other one is of a bound, and where these are false, their bounds force the sum's.
pub record IsLinear (atoms : List Atom) (clause : List Lit) : Type 0 where
  pub before : List Lit
  pub sum : ℕ
  pub positive : Bool
  pub behind : List Lit
  pub parts : clause ≡ before ++ of_sign positive sum ∷ behind
  pub number : ℤ
  pub summands : List Summand
  pub there : slice_get atoms sum ≡ Some (sum_atom number summands)
  pub bounds_before : (l : Lit) → Contains before l → IsOfBound atoms l
  pub bounds_behind : (l : Lit) → Contains behind l → IsOfBound atoms l
  pub forced : IsForced (bounds_denied atoms clause) positive number summands

-- the rule accepts these and no others
abbrev pub LinearIsExact : Type 0
LinearIsExact = (atoms : List Atom) (clause : List Lit) → (is_linear atoms clause ≡ true) ↔ IsLinear atoms clause

-- A false literal + says that its variable is at least one more than the bound, a false literal - that it is at most
-- the bound.
abbrev pub IsDenied : List Atom → List Lit → Bound → Type 0
IsDenied atoms clause (at_least x n) = (a : ℕ) × (k : ℤ) × Contains clause (plus a)
    × (slice_get atoms a ≡ Some (le_atom x k))
    × (n ≡ k +ℤ pos 1)
IsDenied atoms clause (at_most x k) = (a : ℕ) × Contains clause (minus a) × (slice_get atoms a ≡ Some (le_atom x k))

-- the bounds that a clause denies are these and no others
abbrev pub DeniedAreExact : Type 0
DeniedAreExact = (atoms : List Atom) (clause : List Lit) (b : Bound)
    → Contains (bounds_denied atoms clause) b ↔ IsDenied atoms clause b

-- the bounds say that the variable is at least the number, or it is a length, and the number 0
abbrev pub IsLower : List Bound → Variable → ℤ → Type 0
IsLower bs x n = Contains bs (at_least x n) ⊎ (lowest x ≡ Some n)

-- the greatest number of which something holds, none where there is no such number; and the least one
abbrev pub IsGreatest : (ℤ → Type 0) → Option ℤ → Type 0
IsGreatest P None = (m : ℤ) → P m → ⊥
IsGreatest P (Some n) = P n × ((m : ℤ) → P m → m ≤ℤ n)

abbrev pub IsLeast : (ℤ → Type 0) → Option ℤ → Type 0
IsLeast P None = (m : ℤ) → P m → ⊥
IsLeast P (Some n) = P n × ((m : ℤ) → P m → n ≤ℤ m)

-- the best bounds count
abbrev pub LowerIsGreatest : Type 0
LowerIsGreatest = (bs : List Bound) (x : Variable) → IsGreatest (IsLower bs x) (lower_in bs x)

abbrev pub UpperIsLeast : Type 0
UpperIsLeast = (bs : List Bound) (x : Variable) → IsLeast (λ n. Contains bs (at_most x n)) (upper_in bs x)
