-- What stands in a list by number, where the list grows behind or an element is set.
use Rattle.std.proofs.Common.{◌≡◌, ℕ, zero, suc, Bool, true, false, ◌&&◌, List, [], ◌∷◌, ◌++◌, length, slice_get, Option, Some, None, unwrap_or, refl, ap, ◌∙◌, ◌⊎◌, inl, inr}
use Rattle.std.specs.Prelude.{set}
use Rattle.std.specs.List.{list_any, zip}
use Rattle.std.proofs.lemmas.Bool.{and_parts, and_from, or_cases, or_left, or_right, false≢true}
use Rattle.sb_lit.specs.Kept.{Kept, KeptClause, kept_at}
use Rattle.sb_rulebook.specs.Kept.{targets_in, marked}
use Rattle.std.specs.List.{Contains}
use Rattle.sb_sound.proofs.PassFacts.{Contains-first, Contains-later}

-- the last one, or one before
pub slice_get-push : {X : Type 0} → (xs : List X) (y : X) (k : ℕ) (x : X) → slice_get (xs ++ y ∷ []) k ≡ Some x
    → (slice_get xs k ≡ Some x) ⊎ ((k ≡ length xs) × (y ≡ x))
slice_get-push [] y zero x h = inr (refl, Prim.cc (h))
slice_get-push [] y (suc k) x h = absurd (Prim.cc (h))
slice_get-push (z ∷ xs) y zero x h = inl h
slice_get-push {X} (z ∷ xs) y (suc k) x h = elim (slice_get-push xs y k x h) as
    (λ _. (slice_get (z ∷ xs) (suc k) ≡ Some x) ⊎ ((suc k ≡ length (z ∷ xs)) × (y ≡ x)))
    [ inl before ↦ inl before | inr last ↦ inr (ap suc last.0, last.1) ]

-- the one that was set, or another one
pub slice_get-set : {X : Type 0} → (xs : List X) (i : ℕ) (y : X) (k : ℕ) (x : X) → slice_get (set xs i y) k ≡ Some x
    → ((k ≡ i) × (y ≡ x)) ⊎ (slice_get xs k ≡ Some x)
slice_get-set [] i y k x h = inr h
slice_get-set (z ∷ xs) zero y zero x h = inl (refl, Prim.cc (h))
slice_get-set (z ∷ xs) zero y (suc k) x h = inr h
slice_get-set (z ∷ xs) (suc i) y zero x h = inr h
slice_get-set (z ∷ xs) (suc i) y (suc k) x h = elim (slice_get-set xs i y k x h) as
    (λ _. ((suc k ≡ suc i) × (y ≡ x)) ⊎ (slice_get (z ∷ xs) (suc k) ≡ Some x))
    [ inl here ↦ inl (ap suc here.0, here.1) | inr other ↦ inr other ]

unwrap_some : {A : Type 0} → (o : Option (Option A)) (x : A) → unwrap_or o None ≡ Some x → o ≡ Some (Some x)
unwrap_some None x h = absurd (Prim.cc (h))
unwrap_some (Some p) x h = ap Some h

pub kept_there : (kept : Kept) (id : ℕ) (clause : KeptClause) → kept_at kept id ≡ Some clause
    → slice_get kept id ≡ Some (Some clause)
kept_there kept id clause h = unwrap_some (slice_get kept id) clause h

pub there_kept : (kept : Kept) (id : ℕ) (clause : KeptClause) → slice_get kept id ≡ Some (Some clause)
    → kept_at kept id ≡ Some clause
there_kept kept id clause h = ap (λ o. unwrap_or o None) h

pub targets_there : (es : List (Option (List ℕ))) (id : ℕ) (targets : List ℕ) → targets_in es id ≡ Some targets
    → slice_get es id ≡ Some (Some targets)
targets_there es id targets h = unwrap_some (slice_get es id) targets h

pub there_targets : (es : List (Option (List ℕ))) (id : ℕ) (targets : List ℕ)
    → slice_get es id ≡ Some (Some targets) → targets_in es id ≡ Some targets
there_targets es id targets h = ap (λ o. unwrap_or o None) h

pub mark_there : (dead : List Bool) (id : ℕ) → unwrap_or (slice_get dead id) false ≡ true
    → slice_get dead id ≡ Some true
mark_there dead id h = step (slice_get dead id) h
  where
    step : (o : Option Bool) → unwrap_or o false ≡ true → o ≡ Some true
    step None h = absurd (false≢true h)
    step (Some b) h = ap Some h

-- what is marked was marked before, or is one of these
pub marked-cases : (rs : List ℕ) (dead : List Bool) (id : ℕ) → slice_get (marked rs dead) id ≡ Some true
    → Contains rs id ⊎ (slice_get dead id ≡ Some true)
marked-cases [] dead id h = inr h
marked-cases (r ∷ rs) dead id h = elim (slice_get-set (marked rs dead) r true id true h) as
    (λ _. Contains (r ∷ rs) id ⊎ (slice_get dead id ≡ Some true)) [
      | inl here ↦ inl (rw here.0 (Contains-first r rs))
      | inr other ↦ elim (marked-cases rs dead id other) as
          (λ _. Contains (r ∷ rs) id ⊎ (slice_get dead id ≡ Some true))
          [ inl later ↦ inl (Contains-later r rs id later) | inr before ↦ inr before ]
    ]

-- two that stand beside each other, and pass the test
pub record FoundBeside {A : Type 0} (test : A → Bool) (xs : List A) (marks : List Bool) : Type 0 where
  pub number : ℕ
  pub element : A
  pub there : slice_get xs number ≡ Some element
  pub is_marked : slice_get marks number ≡ Some true
  pub passes : test element ≡ true

pub find_beside : {A : Type 0} → (test : A → Bool) (xs : List A) (marks : List Bool)
    → list_any (λ p. p.1 && test p.0) (zip xs marks) ≡ true → FoundBeside test xs marks
find_beside test [] marks any = absurd (false≢true any)
find_beside test (x ∷ xs) [] any = absurd (false≢true any)
find_beside test (x ∷ xs) (b ∷ marks) any =
    elim (or_cases (b && test x) (list_any (λ p. p.1 && test p.0) (zip xs marks)) any) [
      | inl here ↦
          let parts = and_parts b (test x) here in
          record { number = 0; element = x; there = refl; is_marked = ap Some parts.0; passes = parts.1 }
      | inr later ↦
          let f = find_beside test xs marks later in
          record {
            number = suc f.number;
            element = f.element;
            there = f.there;
            is_marked = f.is_marked;
            passes = f.passes;
          }
    ]

pub any_beside : {A : Type 0} → (test : A → Bool) (xs : List A) (marks : List Bool) (n : ℕ) (x : A)
    → slice_get xs n ≡ Some x → slice_get marks n ≡ Some true → test x ≡ true
    → list_any (λ p. p.1 && test p.0) (zip xs marks) ≡ true
any_beside test [] marks n x there marked passes = absurd (Prim.cc (there))
any_beside test (y ∷ xs) [] n x there marked passes = absurd (Prim.cc (marked))
any_beside test (y ∷ xs) (b ∷ marks) zero x there marked passes =
    or_left (b && test y) (list_any (λ p. p.1 && test p.0) (zip xs marks))
    (and_from b (test y) (Prim.cc (marked)) (ap test (Prim.cc (there)) ∙ passes))
any_beside test (y ∷ xs) (b ∷ marks) (suc n) x there marked passes =
    or_right (b && test y) (list_any (λ p. p.1 && test p.0) (zip xs marks))
    (any_beside test xs marks n x there marked passes)
