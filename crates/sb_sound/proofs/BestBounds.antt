-- The bounds that a clause denies, and the best of them.
use Rattle.std.proofs.Common.{◌≡◌, ℤ, pos, Bool, true, false, int_le, if◌then◌else◌, List, [], ◌∷◌, ◌++◌, Option, Some, None, refl, sym, subst, ◌∙◌, ◌⊎◌, inl, inr, arith}
use Rattle.std.specs.Prelude.{◌+ℤ◌}
use Rattle.std.specs.Int.Signed.{◌≤ℤ◌, ≤ℤ_refl}
use Rattle.std.specs.List.{Contains}
use Rattle.std.proofs.lemmas.Bool.{false≢true, eq-eqb}
use Rattle.std.proofs.lemmas.Int.{ints}
use Rattle.sb_lit.specs.declared.clause.Lit.{Lit}
use Rattle.sb_rulebook.specs.Atoms.{Atom, le_atom}
use Rattle.sb_rulebook.specs.Gates.{atom_of}
use Rattle.sb_rulebook.specs.BoundClauses.{bound_denied, bounds_denied}
use Rattle.sb_rulebook.proofs.CallerLemmas.{same_variable}
use Rattle.sb_script.specs.Sums.{Variable, int_constant, length_of, is_same_variable}
use Rattle.sb_script.specs.Bounds.{Bound, at_least, at_most, lower_in, upper_in, greater_of, lesser_of}
use Rattle.sb_sound.specs.ClauseForms.{plus, minus}
use Rattle.sb_sound.specs.LinearLaws.{IsDenied, DeniedAreExact, IsLower, IsGreatest, IsLeast, LowerIsGreatest, UpperIsLeast}
use Rattle.sb_sound.proofs.PassFacts.{Contains-cases, Contains-first, Contains-later, Contains-none}
use Rattle.sb_sound.proofs.SetForms.{as_sign}

-- Lists put together.

module _ {X : Type 0} where
  append_cases : (xs ys : List X) (y : X) → Contains (xs ++ ys) y → Contains xs y ⊎ Contains ys y
  append_cases [] ys y within = inr within
  append_cases (x ∷ xs) ys y within = elim (Contains-cases x (xs ++ ys) y within) as
      (λ _. Contains (x ∷ xs) y ⊎ Contains ys y) [
        | inl here ↦ inl (subst (λ z. Contains (x ∷ xs) z) here (Contains-first x xs))
        | inr later ↦ elim (append_cases xs ys y later) as (λ _. Contains (x ∷ xs) y ⊎ Contains ys y)
            [ inl left ↦ inl (Contains-later x xs y left) | inr right ↦ inr right ]
      ]

  append_left : (xs ys : List X) (y : X) → Contains xs y → Contains (xs ++ ys) y
  append_left [] ys y within = absurd (Contains-none y within)
  append_left (x ∷ xs) ys y within = elim (Contains-cases x xs y within) [
    | inl here ↦ subst (λ z. Contains (x ∷ (xs ++ ys)) z) here (Contains-first x (xs ++ ys))
    | inr later ↦ Contains-later x (xs ++ ys) y (append_left xs ys y later)
  ]

  append_right : (xs ys : List X) (y : X) → Contains ys y → Contains (xs ++ ys) y
  append_right [] ys y within = within
  append_right (x ∷ xs) ys y within = Contains-later x (xs ++ ys) y (append_right xs ys y within)

-- What a clause denies.

-- what one literal denies
abbrev denied_by : List Atom → Lit → List Bound
denied_by atoms l = bound_denied l.positive (atom_of atoms l)

one_of : (b : Bound) (c : Bound) → Contains (b ∷ []) c → b ≡ c
one_of b c within =
    elim (Contains-cases b [] c within) [ inl here ↦ here | inr later ↦ absurd (Contains-none c later) ]

denied_form : (atoms : List Atom) (clause : List Lit) (l : Lit) (b : Bound) → Contains clause l
    → Contains (denied_by atoms l) b → IsDenied atoms clause b
denied_form atoms clause l b within h = step l.positive (atom_of atoms l) refl refl h
  where
    step : (s : Bool) (o : Option Atom) → l.positive ≡ s → atom_of atoms l ≡ o → Contains (bound_denied s o) b
        → IsDenied atoms clause b
    step true (Some (le_atom x k)) sign there h =
        subst (IsDenied atoms clause) (one_of (at_least x (k +ℤ pos 1)) b h)
        (l.atom, k, subst (λ m. Contains clause m) (as_sign l true sign) within, there, refl)
    step false (Some (le_atom x k)) sign there h =
        subst (IsDenied atoms clause) (one_of (at_most x k) b h)
        (l.atom, subst (λ m. Contains clause m) (as_sign l false sign) within, there)
    step true _ sign there h = absurd (Contains-none b h)
    step false _ sign there h = absurd (Contains-none b h)

-- the literal of a bound
record IsSaidBy (atoms : List Atom) (clause : List Lit) (b : Bound) : Type 0 where
  literal : Lit
  within : Contains clause literal
  says : Contains (denied_by atoms literal) b

said_by : (atoms : List Atom) (clause : List Lit) (b : Bound) → Contains (bounds_denied atoms clause) b
    → IsSaidBy atoms clause b
said_by atoms [] b h = absurd (Contains-none b h)
said_by atoms (l ∷ ls) b h = elim (append_cases (denied_by atoms l) (bounds_denied atoms ls) b h) [
  | inl here ↦ record { literal = l; within = Contains-first l ls; says = here }
  | inr later ↦
      let s = said_by atoms ls b later in
      record { literal = s.literal; within = Contains-later l ls s.literal s.within; says = s.says }
]

from_said : (atoms : List Atom) (clause : List Lit) (l : Lit) (b : Bound) → Contains clause l
    → Contains (denied_by atoms l) b → Contains (bounds_denied atoms clause) b
from_said atoms [] l b within h = absurd (Contains-none l within)
from_said atoms (m ∷ ls) l b within h = elim (Contains-cases m ls l within) [
  | inl here ↦ append_left (denied_by atoms m) (bounds_denied atoms ls) b
      (subst (λ n. Contains (denied_by atoms n) b) (sym here) h)
  | inr later ↦ append_right (denied_by atoms m) (bounds_denied atoms ls) b (from_said atoms ls l b later h)
]

from_denied : (atoms : List Atom) (clause : List Lit) (b : Bound) → IsDenied atoms clause b
    → Contains (bounds_denied atoms clause) b
from_denied atoms clause (at_least x n) d =
    from_said atoms clause (plus d.0) (at_least x n) d.2
    (subst (λ o. Contains (bound_denied true o) (at_least x n)) (sym d.3)
    (subst (λ (m : ℤ). Contains (at_least x (d.1 +ℤ pos 1) ∷ []) (at_least x m)) (sym d.4)
    (Contains-first (at_least x (d.1 +ℤ pos 1)) [])))
from_denied atoms clause (at_most x k) d =
    from_said atoms clause (minus d.0) (at_most x k) d.1
    (subst (λ o. Contains (bound_denied false o) (at_most x k)) (sym d.2) (Contains-first (at_most x k) []))

pub denied_exact : DeniedAreExact
denied_exact atoms clause b = (
  (λ h. let s = said_by atoms clause b h in denied_form atoms clause s.literal b s.within s.says),
  from_denied atoms clause b,
)

-- The best of numbers.

some_same : (m n : ℤ) → Some m ≡ Some n → m ≡ n
some_same m n h = Prim.cc (h)

at_most_itself : (m n : ℤ) → m ≡ n → m ≤ℤ n
at_most_itself m n e = subst (λ (k : ℤ). m ≤ℤ k) e (≤ℤ_refl m)

at_most_by : (m n : ℤ) → int_le m n ≡ true → m ≤ℤ n
at_most_by m n h = grind (arith, ints)

at_most_else : (m n : ℤ) → int_le m n ≡ false → n ≤ℤ m
at_most_else m n h = grind (arith, ints)

at_most_both : (a b c : ℤ) → a ≤ℤ b → b ≤ℤ c → a ≤ℤ c
at_most_both a b c p q = grind (arith, ints)

module _ (P Q : ℤ → Type 0) (k : ℤ) (itself : Q k) (more : (m : ℤ) → P m → Q m)
    (all : (m : ℤ) → Q m → (m ≡ k) ⊎ P m) where
  greatest_with : (o : Option ℤ) → IsGreatest P o → IsGreatest Q (greater_of (Some k) o)
  greatest_with None none =
      (itself, λ m h. elim (all m h) [ inl here ↦ at_most_itself m k here | inr other ↦ absurd (none m other) ])
  greatest_with (Some n) best = step (int_le k n) refl
    where
      step : (b : Bool) → int_le k n ≡ b → IsGreatest Q (Some (if b then n else k))
      step true is = (
        more n best.0,
        λ m h. elim (all m h) [
          | inl here ↦ at_most_both m k n (at_most_itself m k here) (at_most_by k n is)
          | inr other ↦ best.1 m other
        ],
      )
      step false is = (
        itself,
        λ m h. elim (all m h) [
          | inl here ↦ at_most_itself m k here
          | inr other ↦ at_most_both m n k (best.1 m other) (at_most_else k n is)
        ],
      )

  least_with : (o : Option ℤ) → IsLeast P o → IsLeast Q (lesser_of (Some k) o)
  least_with None none =
      (itself, λ m h. elim (all m h) [ inl here ↦ at_most_itself k m (sym here) | inr other ↦ absurd (none m other) ])
  least_with (Some n) best = step (int_le k n) refl
    where
      step : (b : Bool) → int_le k n ≡ b → IsLeast Q (Some (if b then k else n))
      step true is = (
        itself,
        λ m h. elim (all m h) [
          | inl here ↦ at_most_itself k m (sym here)
          | inr other ↦ at_most_both k n m (at_most_by k n is) (best.1 m other)
        ],
      )
      step false is = (
        more n best.0,
        λ m h. elim (all m h) [
          | inl here ↦ at_most_both n k m (at_most_else k n is) (at_most_itself k m (sym here))
          | inr other ↦ best.1 m other
        ],
      )

module _ (P Q : ℤ → Type 0) (more : (m : ℤ) → P m → Q m) (all : (m : ℤ) → Q m → P m) where
  greatest_same : (o : Option ℤ) → IsGreatest P o → IsGreatest Q o
  greatest_same None none = λ m h. none m (all m h)
  greatest_same (Some n) best = (more n best.0, λ m h. best.1 m (all m h))

  least_same : (o : Option ℤ) → IsLeast P o → IsLeast Q o
  least_same None none = λ m h. none m (all m h)
  least_same (Some n) best = (more n best.0, λ m h. best.1 m (all m h))

-- Bounds of variables.

variable_itself : (x : Variable) → is_same_variable x x ≡ true
variable_itself (int_constant s) = eq-eqb s s refl
variable_itself (length_of s) = eq-eqb s s refl

other_variable : (x y : Variable) → is_same_variable x y ≡ false → x ≡ y → ⊥
other_variable x y other same =
    false≢true (sym other ∙ subst (λ z. is_same_variable x z ≡ true) same (variable_itself x))

same_least : (x y : Variable) (m n : ℤ) → at_least y m ≡ at_least x n → (x ≡ y) × (n ≡ m)
same_least x y m n h = (Prim.cc (h), Prim.cc (h))

same_most : (x y : Variable) (m n : ℤ) → at_most y m ≡ at_most x n → (x ≡ y) × (n ≡ m)
same_most x y m n h = (Prim.cc (h), Prim.cc (h))

least_not_most : (x y : Variable) (m n : ℤ) → at_least y m ≡ at_most x n → ⊥
least_not_most x y m n h = Prim.cc (h)

lower_later : (b : Bound) (bs : List Bound) (x : Variable) (m : ℤ) → IsLower bs x m → IsLower (b ∷ bs) x m
lower_later b bs x m (inl within) = inl (Contains-later b bs (at_least x m) within)
lower_later b bs x m (inr lowest_is) = inr lowest_is

lower_first : (b : Bound) (bs : List Bound) (x : Variable) (m : ℤ) → IsLower (b ∷ bs) x m
    → (b ≡ at_least x m) ⊎ IsLower bs x m
lower_first b bs x m (inl within) = elim (Contains-cases b bs (at_least x m) within) as
    (λ _. (b ≡ at_least x m) ⊎ IsLower bs x m) [ inl here ↦ inl here | inr later ↦ inr (inl later) ]
lower_first b bs x m (inr lowest_is) = inr (inr lowest_is)

-- a bound that says nothing of the variable from below
lower_without : (b : Bound) (bs : List Bound) (x : Variable) → ((m : ℤ) → b ≡ at_least x m → ⊥)
    → IsGreatest (IsLower bs x) (lower_in bs x) → IsGreatest (IsLower (b ∷ bs) x) (lower_in bs x)
lower_without b bs x none best =
    greatest_same (IsLower bs x) (IsLower (b ∷ bs) x) (lower_later b bs x)
    (λ m h. elim (lower_first b bs x m h) [ inl here ↦ absurd (none m here) | inr later ↦ later ])
    (lower_in bs x) best

pub lower_greatest : LowerIsGreatest
lower_greatest [] (int_constant s) = λ m h. elim h [
  | inl within ↦ Contains-none (at_least (int_constant s) m) within
  | inr is ↦ Prim.cc (is)
]
lower_greatest [] (length_of s) = (
  inr refl,
  λ m h. elim h [
    | inl within ↦ absurd (Contains-none (at_least (length_of s) m) within)
    | inr is ↦ at_most_itself m (pos 0) (sym (some_same (pos 0) m is))
  ],
)
lower_greatest (at_most y k ∷ bs) x =
    lower_without (at_most y k) bs x (λ m e. least_not_most y x m k (sym e)) (lower_greatest bs x)
lower_greatest (at_least y k ∷ bs) x = step (is_same_variable x y) refl (lower_greatest bs x)
  where
    step : (b : Bool) → is_same_variable x y ≡ b → IsGreatest (IsLower bs x) (lower_in bs x)
        → IsGreatest (IsLower (at_least y k ∷ bs) x) (greater_of (if b then Some k else None) (lower_in bs x))
    step true is best =
        greatest_with (IsLower bs x) (IsLower (at_least y k ∷ bs) x) k
        (inl (subst (λ z. Contains (at_least y k ∷ bs) (at_least z k)) (sym (same_variable x y is))
        (Contains-first (at_least y k) bs)))
        (lower_later (at_least y k) bs x)
        (λ m h. elim (lower_first (at_least y k) bs x m h) as (λ _. (m ≡ k) ⊎ IsLower bs x m)
        [ inl here ↦ inl (same_least x y k m here).1 | inr later ↦ inr later ])
        (lower_in bs x) best
    step false is best =
        lower_without (at_least y k) bs x (λ m e. other_variable x y is (same_least x y k m e).0) best

upper_without : (b : Bound) (bs : List Bound) (x : Variable) → ((m : ℤ) → b ≡ at_most x m → ⊥)
    → IsLeast (λ n. Contains bs (at_most x n)) (upper_in bs x)
    → IsLeast (λ n. Contains (b ∷ bs) (at_most x n)) (upper_in bs x)
upper_without b bs x none best =
    least_same (λ n. Contains bs (at_most x n)) (λ n. Contains (b ∷ bs) (at_most x n))
    (λ m within. Contains-later b bs (at_most x m) within)
    (λ m h. elim (Contains-cases b bs (at_most x m) h) [ inl here ↦ absurd (none m here) | inr later ↦ later ])
    (upper_in bs x) best

pub upper_least : UpperIsLeast
upper_least [] x = λ m within. Contains-none (at_most x m) within
upper_least (at_least y k ∷ bs) x =
    upper_without (at_least y k) bs x (λ m e. least_not_most x y k m e) (upper_least bs x)
upper_least (at_most y k ∷ bs) x = step (is_same_variable x y) refl (upper_least bs x)
  where
    step : (b : Bool) → is_same_variable x y ≡ b → IsLeast (λ n. Contains bs (at_most x n)) (upper_in bs x)
        → IsLeast (λ n. Contains (at_most y k ∷ bs) (at_most x n))
        (lesser_of (if b then Some k else None) (upper_in bs x))
    step true is best =
        least_with (λ n. Contains bs (at_most x n)) (λ n. Contains (at_most y k ∷ bs) (at_most x n)) k
        (subst (λ z. Contains (at_most y k ∷ bs) (at_most z k)) (sym (same_variable x y is))
        (Contains-first (at_most y k) bs))
        (λ m within. Contains-later (at_most y k) bs (at_most x m) within)
        (λ m h. elim (Contains-cases (at_most y k) bs (at_most x m) h) as
        (λ _. (m ≡ k) ⊎ Contains bs (at_most x m))
        [ inl here ↦ inl (same_most x y k m here).1 | inr later ↦ inr later ])
        (upper_in bs x) best
    step false is best =
        upper_without (at_most y k) bs x (λ m e. other_variable x y is (same_most x y k m e).0) best
