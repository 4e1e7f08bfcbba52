-- Assertions by their places, with one more.
use Rattle.sb_refute.proofs.Words.{◌≡◌, ◌≢◌, ℕ, zero, suc, ◌-◌, ◌<◌, ◌≤◌, ◌⊎◌, inl, inr, Bool, true, false, nat_eq, List, [], ◌∷◌, ◌++◌, length, take, set, Option, Some, None, refl, sym, ap, ap₂, ◌∙◌, arith, replicate, take-nil, nat_tests, Asserted, asserted_at, placed}
use Rattle.sb_refute.proofs.Clauses.{none-at}

abbrev Places : Type 0
Places = List (Option Asserted)

-- the new one is there
pub placed-there : (xs : Places) (n : ℕ) (a : Option Asserted) → asserted_at (placed xs n a) n ≡ a
placed-there [] zero a = refl
placed-there [] (suc n) a = placed-there [] n a
placed-there (x ∷ xs) zero a = refl
placed-there (x ∷ xs) (suc n) a = placed-there xs n a

-- and the others stay
pub placed-others : (xs : Places) (n : ℕ) (a : Option Asserted) (q : ℕ) → q ≢ n
    → asserted_at (placed xs n a) q ≡ asserted_at xs q
placed-others [] zero a zero h = absurd (h refl)
placed-others [] zero a (suc q) h = none-at q
placed-others [] (suc n) a zero h = refl
placed-others [] (suc n) a (suc q) h = placed-others [] n a q (λ e. h (ap suc e)) ∙ none-at q
placed-others (x ∷ xs) zero a zero h = absurd (h refl)
placed-others (x ∷ xs) zero a (suc q) h = refl
placed-others (x ∷ xs) (suc n) a zero h = refl
placed-others (x ∷ xs) (suc n) a (suc q) h = placed-others xs n a q (λ e. h (ap suc e))

-- what is there is the new one, or was there
pub placed-cases : (xs : Places) (n q : ℕ) (a : Option Asserted) (b : Asserted) → asserted_at (placed xs n a) q ≡ Some b
    → (a ≡ Some b) ⊎ (asserted_at xs q ≡ Some b)
placed-cases xs n q a b h = step (nat_eq q n) refl
  where
    step : (t : Bool) → nat_eq q n ≡ t → (a ≡ Some b) ⊎ (asserted_at xs q ≡ Some b)
    step true same =
        let e : n ≡ q = grind (arith, nat_tests) in
        inl (sym (placed-there xs n a) ∙ ap (asserted_at (placed xs n a)) e ∙ h)
    step false other =
        let e : q ≢ n = grind (arith, nat_tests) in inr (sym (placed-others xs n a q e) ∙ h)

-- How the code puts it there.

pub set-placed : (xs : Places) (n : ℕ) (a : Option Asserted) → n < length xs → set xs n a ≡ placed xs n a
set-placed [] n a h = absurd (omega (arith, h))
set-placed (x ∷ xs) zero a h = refl
set-placed (x ∷ xs) (suc n) a h = ap (λ ys. x ∷ ys) (set-placed xs n a (omega (arith, h)))

pub filled-placed : (xs : Places) (n : ℕ) (a : Option Asserted) → length xs ≤ n
    → (take n xs ++ replicate (n - length xs) None) ++ a ∷ [] ≡ placed xs n a
filled-placed [] n a h =
    ap₂ (λ (ys : Places) k. (ys ++ replicate k None) ++ a ∷ []) (take-nil n) (omega arith) ∙ filled n
  where
    filled : (n : ℕ) → replicate n None ++ a ∷ [] ≡ placed [] n a
    filled zero = refl
    filled (suc n) = ap (λ ys. None ∷ ys) (filled n)
filled-placed (x ∷ xs) zero a h = absurd (omega (arith, h))
filled-placed (x ∷ xs) (suc n) a h =
    ap (λ k. (x ∷ take n xs ++ replicate k None) ++ a ∷ []) (omega arith)
    ∙ ap (λ ys. x ∷ ys) (filled-placed xs n a (omega (arith, h)))
