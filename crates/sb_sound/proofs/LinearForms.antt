-- Which clauses are by rule linear.
use Rattle.std.proofs.Common.{◌≡◌, ℤ, Bool, true, false, ◌||◌, int_le, int_lt, filter, List, [], ◌∷◌, ◌++◌, Option, Some, refl, sym, ap, subst, ◌∙◌, arith, inl, inr}
use Rattle.std.specs.Int.Signed.{◌≤ℤ◌}
use Rattle.std.specs.List.{list_all, Contains}
use Rattle.std.proofs.lemmas.Bool.{and_parts, and_from, or_cases, or_left, or_right, false≢true}
use Rattle.std.proofs.lemmas.Int.{ints}
use Rattle.sb_lit.specs.declared.clause.Lit.{Lit}
use Rattle.sb_rulebook.specs.Atoms.{Atom, le_atom, sum_atom}
use Rattle.sb_rulebook.specs.Gates.{atom_of}
use Rattle.sb_rulebook.specs.BoundClauses.{is_sum_bound, is_bound, bounds_denied, passes, is_forced, is_forced_sum, is_linear}
use Rattle.sb_script.specs.Sums.{Summand}
use Rattle.sb_script.specs.Bounds.{Bound, least_sum, greatest_sum}
use Rattle.sb_sound.specs.ClauseForms.{of_sign}
use Rattle.sb_sound.specs.LinearLaws.{IsOfBound, IsForced, IsLinear, LinearIsExact}
use Rattle.sb_sound.proofs.LinearFacts.{passed}
use Rattle.sb_sound.proofs.OrderForms.{below_by_test, test_by_below}
use Rattle.sb_sound.proofs.FilterForms.{one_left, left_one, within_before, within_behind}
use Rattle.sb_sound.proofs.PassFacts.{Contains-later, all_contained, all_from, all_append}

-- Atoms.

abbrev is_sum : List Atom → Lit → Bool
is_sum atoms l = is_sum_bound (atom_of atoms l)

bound_there : (atoms : List Atom) (l : Lit) → (is_sum atoms l || is_bound (atom_of atoms l)) ≡ true
    → is_sum atoms l ≡ false → IsOfBound atoms l
bound_there atoms l h none =
    step (atom_of atoms l) refl (elim (or_cases (is_sum atoms l) (is_bound (atom_of atoms l)) h)
    [ inl sum ↦ absurd (false≢true (sym none ∙ sum)) | inr bound ↦ bound ])
  where
    step : (o : Option Atom) → atom_of atoms l ≡ o → is_bound o ≡ true → IsOfBound atoms l
    step (Some (le_atom x k)) there h = record { variable = x; number = k; there = there }
    step _ there h = absurd (false≢true h)

no_sum : (atoms : List Atom) (l : Lit) → IsOfBound atoms l → is_sum atoms l ≡ false
no_sum atoms l b = ap is_sum_bound b.there

sum_or_bound : (atoms : List Atom) (l : Lit) → IsOfBound atoms l → (is_sum atoms l || is_bound (atom_of atoms l)) ≡ true
sum_or_bound atoms l b = or_right (is_sum atoms l) (is_bound (atom_of atoms l)) (ap is_bound b.there)

-- From the test.

at_most_by_test : (m n : ℤ) → int_le m n ≡ true → m ≤ℤ n
at_most_by_test m n h = grind (arith, ints)

test_by_at_most : (m n : ℤ) → m ≤ℤ n → int_le m n ≡ true
test_by_at_most m n h = grind (arith, ints)

-- a sum that is forced
record IsForcedSum (bounds : List Bound) (positive : Bool) (o : Option Atom) : Type 0 where
  number : ℤ
  summands : List Summand
  there : o ≡ Some (sum_atom number summands)
  forced : IsForced bounds positive number summands

forced_sum : (bounds : List Bound) (positive : Bool) (o : Option Atom) → is_forced bounds positive o ≡ true
    → IsForcedSum bounds positive o
forced_sum bounds true (Some (sum_atom k ss)) h =
    let at = passed (λ n. int_le n k) (greatest_sum bounds ss) h in
    record {
      number = k;
      summands = ss;
      there = refl;
      forced = (at.number, at.there, at_most_by_test at.number k at.good);
    }
forced_sum bounds false (Some (sum_atom k ss)) h =
    let at = passed (λ n. int_lt k n) (least_sum bounds ss) h in
    record {
      number = k;
      summands = ss;
      there = refl;
      forced = (at.number, at.there, below_by_test k at.number at.good);
    }
forced_sum bounds true _ h = absurd (Prim.cc (h))
forced_sum bounds false _ h = absurd (Prim.cc (h))

module _ (atoms : List Atom) (clause : List Lit) where
  parted_form : (l : Lit) → list_all (λ l. is_sum atoms l || is_bound (atom_of atoms l)) clause ≡ true
      → filter (is_sum atoms) clause ≡ l ∷ [] → is_forced_sum atoms clause (l ∷ []) ≡ true → IsLinear atoms clause
  parted_form l all left h =
      let p = one_left (is_sum atoms) clause l left in
      let f = forced_sum (bounds_denied atoms clause) l.positive (atom_of atoms l) h in
      let of_bound = λ (m : Lit) (within : Contains (p.before ++ l ∷ p.behind) m) (none : is_sum atoms m ≡ false).
      bound_there atoms m (all_contained (λ l. is_sum atoms l || is_bound (atom_of atoms l)) clause m all
      (subst (λ ls. Contains ls m) (sym p.parts) within)) none in
      record {
        before = p.before;
        sum = l.atom;
        positive = l.positive;
        behind = p.behind;
        parts = p.parts;
        number = f.number;
        summands = f.summands;
        there = f.there;
        bounds_before = λ m within.
            of_bound m (within_before (is_sum atoms) p.before p.behind l m within) (p.none_before m within);
        bounds_behind = λ m within.
            of_bound m (within_behind (is_sum atoms) p.before p.behind l m (Contains-later l p.behind m within))
            (p.none_behind m within);
        forced = f.forced;
      }

  sums_form : (sums : List Lit) → list_all (λ l. is_sum atoms l || is_bound (atom_of atoms l)) clause ≡ true
      → filter (is_sum atoms) clause ≡ sums → is_forced_sum atoms clause sums ≡ true → IsLinear atoms clause
  sums_form [] all left h = absurd (false≢true h)
  sums_form (l ∷ []) all left h = parted_form l all left h
  sums_form (l ∷ m ∷ ls) all left h = absurd (false≢true h)

  linear_form : is_linear atoms clause ≡ true → IsLinear atoms clause
  linear_form h =
      let parts = and_parts (list_all (λ l. is_sum atoms l || is_bound (atom_of atoms l)) clause) _ h in
      sums_form (filter (is_sum atoms) clause) parts.0 refl parts.1

-- To the test.

passes_at : (test : ℤ → Bool) (o : Option ℤ) (n : ℤ) → o ≡ Some n → test n ≡ true → passes test o ≡ true
passes_at test o n there h = ap (passes test) there ∙ h

from_forced : (bounds : List Bound) (positive : Bool) (k : ℤ) (ss : List Summand) → IsForced bounds positive k ss
    → is_forced bounds positive (Some (sum_atom k ss)) ≡ true
from_forced bounds true k ss f =
    passes_at (λ n. int_le n k) (greatest_sum bounds ss) f.0 f.1 (test_by_at_most f.0 k f.2)
from_forced bounds false k ss f =
    passes_at (λ n. int_lt k n) (least_sum bounds ss) f.0 f.1 (test_by_below k f.0 f.2)

from_parts : (atoms : List Atom) (before behind : List Lit) (l : Lit) (k : ℤ) (ss : List Summand)
    → atom_of atoms l ≡ Some (sum_atom k ss) → ((m : Lit) → Contains before m → IsOfBound atoms m)
    → ((m : Lit) → Contains behind m → IsOfBound atoms m)
    → IsForced (bounds_denied atoms (before ++ l ∷ behind)) l.positive k ss
    → is_linear atoms (before ++ l ∷ behind) ≡ true
from_parts atoms before behind l k ss there bounds bounds_behind forced =
    let clause = before ++ l ∷ behind in
    let test = λ (m : Lit). is_sum atoms m || is_bound (atom_of atoms m) in
    and_from (list_all test clause) _
    (all_append test before (l ∷ behind) (all_from test before (λ m within. sum_or_bound atoms m (bounds m within)))
    (and_from (test l) (list_all test behind)
    (or_left (is_sum atoms l) (is_bound (atom_of atoms l)) (ap is_sum_bound there))
    (all_from test behind (λ m within. sum_or_bound atoms m (bounds_behind m within)))))
    (ap (is_forced_sum atoms clause) (left_one (is_sum atoms) before behind l (ap is_sum_bound there)
    (λ m within. no_sum atoms m (bounds m within)) (λ m within. no_sum atoms m (bounds_behind m within)))
    ∙ ap (is_forced (bounds_denied atoms clause) l.positive) there
    ∙ from_forced (bounds_denied atoms clause) l.positive k ss forced)

from_linear : (atoms : List Atom) (clause : List Lit) → IsLinear atoms clause → is_linear atoms clause ≡ true
from_linear atoms clause e =
    ap (is_linear atoms) e.parts
    ∙ from_parts atoms e.before e.behind (of_sign e.positive e.sum) e.number e.summands e.there e.bounds_before
    e.bounds_behind
    (subst (λ ls. IsForced (bounds_denied atoms ls) e.positive e.number e.summands) e.parts e.forced)

pub linear_exact : LinearIsExact
linear_exact atoms clause = (linear_form atoms clause, from_linear atoms clause)
