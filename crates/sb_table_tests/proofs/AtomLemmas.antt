-- Tables with one atom more, and so many first atoms.
use Rattle.std.proofs.Common.{◌≡◌, ℕ, zero, suc, ◌<◌, ◌≤◌, Bool, true, false, if◌then◌else◌, inl, inr, List, [], ◌∷◌, ◌++◌, length, nat_eq, nat_lt, refl, subst, arith}
use Rattle.std.proofs.lemmas.Bool.{and_from, and_parts, lt-ltb, ltb-true}
use Rattle.std.proofs.lemmas.Option.{slice_get_within, same_Some}
use Rattle.std.specs.List.{list_all, list_any}
use Rattle.indexmap.specs.IndexSet.{insert_key}
use Rattle.sb_rulebook.specs.Atoms.{AtomOver, is_well_formed}
use Rattle.sb_atoms.specs.Numbered.{Names, IsWith, HasRegexBelow, HaveRegexesBelow}
use Rattle.sb_theory.specs.Memberships.{is_atom}
use Rattle.sb_theory.specs.Tables.{AreFormed}

nothing : (a : AtomOver ℕ) (i : ℕ) → Names [] i a → ⊥
nothing a i h = omega (arith, slice_get_within [] i a h)

one_more : (n : ℕ) (old : List (AtomOver ℕ)) (a b : AtomOver ℕ) (i : ℕ) → Names (old ++ a ∷ []) i b
    → HasRegexBelow n a → HaveRegexesBelow n old → HasRegexBelow n b
one_more n [] a b zero h low below = subst (λ x. HasRegexBelow n x) (same_Some a b h) low
one_more n [] a b (suc i) h low below = absurd (nothing b i h)
one_more n (x ∷ xs) a b zero h low below = below 0 b h
one_more n (x ∷ xs) a b (suc i) h low below = one_more n xs a b i h low (λ j y k. below (suc j) y k)

-- the regexes are so few where those of the atoms before are, and that of the new one is
pub below_with : (n : ℕ) (old new : List (AtomOver ℕ)) (a : AtomOver ℕ) → IsWith old new a → HasRegexBelow n a
    → HaveRegexesBelow n old → HaveRegexesBelow n new
below_with n old new a (inl same) low below = rw same below
below_with n old new a (inr longer) low below = rw longer (λ i b h. one_more n old a b i h low below)

-- each atom is well formed where those before are, and the new one is

pub none_formed : AreFormed []
none_formed i a h = absurd (nothing a i h)

one_formed : (old : List (AtomOver ℕ)) (a b : AtomOver ℕ) (i : ℕ) → Names (old ++ a ∷ []) i b
    → is_well_formed a ≡ true → AreFormed old → is_well_formed b ≡ true
one_formed [] a b zero h well formed =
    subst (λ (x : AtomOver ℕ). is_well_formed x ≡ true) (same_Some a b h) well
one_formed [] a b (suc i) h well formed = absurd (nothing b i h)
one_formed (x ∷ xs) a b zero h well formed = formed 0 b h
one_formed (x ∷ xs) a b (suc i) h well formed = one_formed xs a b i h well (λ j y k. formed (suc j) y k)

pub formed_with : (old new : List (AtomOver ℕ)) (a : AtomOver ℕ) → IsWith old new a → is_well_formed a ≡ true
    → AreFormed old → AreFormed new
formed_with old new a (inl same) well formed = rw same formed
formed_with old new a (inr longer) well formed = rw longer (λ i b h. one_formed old a b i h well formed)

-- Numbers below one.

below_push : (n : ℕ) (xs : List ℕ) (x : ℕ) → list_all (λ y. nat_lt y n) xs ≡ true → nat_lt x n ≡ true
    → list_all (λ y. nat_lt y n) (xs ++ x ∷ []) ≡ true
below_push n [] x h low = and_from (nat_lt x n) true low refl
below_push n (y ∷ ys) x h low =
    let p = and_parts (nat_lt y n) (list_all (λ z. nat_lt z n) ys) h in
    and_from (nat_lt y n) (list_all (λ z. nat_lt z n) (ys ++ x ∷ [])) p.0 (below_push n ys x p.1 low)

pub below_insert : (n : ℕ) (keys : List ℕ) (x : ℕ) → list_all (λ y. nat_lt y n) keys ≡ true → x < n
    → list_all (λ y. nat_lt y n) (insert_key nat_eq keys x) ≡ true
below_insert n keys x h low = step (list_any (nat_eq x) keys)
  where
    step : (b : Bool) → list_all (λ y. nat_lt y n) (if b then keys else keys ++ x ∷ []) ≡ true
    step true = h
    step false = below_push n keys x h (lt-ltb x n low)

pub below_atoms : (n : ℕ) (keys : List ℕ) (table : List (AtomOver ℕ)) → n ≤ length table
    → list_all (λ y. nat_lt y n) keys ≡ true → list_all (is_atom table) keys ≡ true
below_atoms n [] table low h = refl
below_atoms n (x ∷ xs) table low h =
    let p = and_parts (nat_lt x n) (list_all (λ y. nat_lt y n) xs) h in
    and_from (is_atom table x) (list_all (is_atom table) xs)
    (lt-ltb x (length table) (omega (arith, ltb-true x n p.0, low))) (below_atoms n xs table low p.1)
