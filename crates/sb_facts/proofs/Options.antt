-- Options, and elements of lists by their places.
use Rattle.std.proofs.Common.{◌≡◌, ℕ, zero, suc, ◌<◌, ◌≤◌, ◌⊎◌, inl, inr, Bool, true, false, nat_lt, List, [], ◌∷◌, ◌++◌, length, map, Option, Some, None, option_map, option_and_then, slice_get, unwrap_or, is_some, IfSome, IsSome, refl, sym, ap, ◌∙◌, arith, length-append}
use Rattle.std.proofs.lemmas.Bool.{false≢true, true≢false}
use Rattle.std.proofs.lemmas.Bool.Decides.{nat_tests}
use Rattle.std.proofs.lemmas.List.{get_or_append_left, get_or_push}
use Rattle.std.proofs.lemmas.Option.{same_Some, none-some, get_or_from_slice_get, slice_get_within, slice_get-get_or}

pub some-none : {X : Type 0} (x : X) → Some x ≡ None → ⊥
some-none x h = cc

pub none_by : {X : Type 0} (o : Option X) → is_some o ≡ false → o ≡ None
none_by None h = refl
none_by (Some x) h = absurd (true≢false h)

pub some_value : {A : Type 0} (o : Option A) → IsSome o → (x : A) × (o ≡ Some x)
some_value None h = absurd (cc)
some_value (Some x) h = (x, refl)

-- where the one more element is
pub get_push : {X : Type 0} (xs : List X) (y x : X) (i : ℕ) → slice_get (xs ++ y ∷ []) i ≡ Some x
    → (slice_get xs i ≡ Some x) ⊎ ((i ≡ length xs) × (x ≡ y))
get_push xs y x i h = step (nat_lt i (length xs)) refl
  where
    within : i < length (xs ++ y ∷ [])
    within = slice_get_within (xs ++ y ∷ []) i x h

    step : (b : Bool) → nat_lt i (length xs) ≡ b → (slice_get xs i ≡ Some x) ⊎ ((i ≡ length xs) × (x ≡ y))
    step true is =
        let l : i < length xs = grind (arith, nat_tests) in
        inl (slice_get-get_or xs i x l
        ∙ ap Some (sym (get_or_append_left xs (y ∷ []) x i l) ∙ get_or_from_slice_get (xs ++ y ∷ []) i x x h))
    step false is =
        let e : i ≡ length xs = grind (arith, nat_tests, within, length-append xs (y ∷ [])) in
        inr (e, sym (get_or_from_slice_get (xs ++ y ∷ []) i x x h) ∙ get_or_push xs y x i (sym e))

pub get_mapped : {A B : Type 0} (f : A → B) (xs : List A) (k : ℕ) (y : B) → slice_get (map f xs) k ≡ Some y
    → (x : A) × (slice_get xs k ≡ Some x) × (f x ≡ y)
get_mapped f [] k y h = absurd (nothing y k h)
  where
    nothing : {X : Type 0} (x : X) (n : ℕ) → slice_get {X = X} [] n ≡ Some x → ⊥
    nothing x n h = omega (arith, slice_get_within [] n x h)
get_mapped f (x ∷ xs) zero y h = (x, refl, same_Some (f x) y h)
get_mapped f (x ∷ xs) (suc k) y h = get_mapped f xs k y h

pub some_then : {A B : Type 0} (f : A → Option B) (x : A) (o : Option A) → Some x ≡ o → option_and_then f o ≡ f x
some_then f x o e = ap (option_and_then f) (sym e)

pub some_mapped : {A B : Type 0} (f : A → B) (o : Option A) → is_some o ≡ is_some (option_map f o)
some_mapped f None = refl
some_mapped f (Some x) = refl

pub mapped_some : {A B : Type 0} (f : A → B) (o : Option A) → is_some (option_map f o) ≡ true → is_some o ≡ true
mapped_some f None h = h
mapped_some f (Some x) h = refl

pub then_some : {A B : Type 0} (f : A → Option B) (o : Option A) → is_some (option_and_then f o) ≡ true
    → is_some o ≡ true
then_some f None h = h
then_some f (Some x) h = refl

pub after_map : {A B P : Type 0} (f : A → B) (o : Option A) (y : B) → option_map f o ≡ Some y
    → ((x : A) → o ≡ Some x → f x ≡ y → P) → P
after_map f None y h more = absurd (none-some y h)
after_map f (Some x) y h more = more x refl (same_Some (f x) y h)

pub number_more : (m n : ℕ) → m ≤ n → (o : Option ℕ) → IfSome o (λ id. id < m) → IfSome o (λ id. id < n)
number_more m n l None h = tt
number_more m n l (Some id) h = omega (arith, l, h)

-- a mark that is true is there
pub mark_there : (marks : List Bool) (n : ℕ) → unwrap_or (slice_get marks n) false ≡ true
    → slice_get marks n ≡ Some true
mark_there marks n h = step (slice_get marks n) h
  where
    step : (o : Option Bool) → unwrap_or o false ≡ true → o ≡ Some true
    step None h = absurd (false≢true h)
    step (Some b) h = ap Some h
