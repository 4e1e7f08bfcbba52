-- What is found in a table by its name.
use Rattle.std.proofs.Common.{◌≡◌, Bool, true, false, if◌then◌else◌, List, [], ◌∷◌, Option, Some, None, subst, refl}
use Rattle.std.specs.Prelude.{filter}
use Rattle.sb_script.specs.Names.{Name, is_name, found_in}

-- what there is passes the test
abbrev pub if_some : {A : Type 0} → (A → Bool) → Option A → Bool
if_some test (Some x) = test x
if_some test None = true

pub some_by : {A : Type 0} (p : A → Bool) (b : Bool) (x y : Option A) → if_some p x ≡ true → if_some p y ≡ true
    → if_some p (if b then x else y) ≡ true
some_by p true x y h k = h
some_by p false x y h k = k

-- each row has the property
abbrev pub Each : {A : Type 0} → (A → Type 0) → List A → Type 0
Each P [] = Unit {0}
Each P (row ∷ rows) = P row × Each P rows

-- what the rows of a table give has the property, so what is found has it
pub found_has : {A : Type 0} (P : A → Type 0) (rows : List (Name × A)) (name : Name) (x : A)
    → Each (λ (row : Name × A). P row.1) rows → found_in rows name ≡ Some x → P x
found_has P [] name x each is = absurd (Prim.cc (is))
found_has {A} P (row ∷ rows) name x each is =
    step (is_name name row.0) (found_has P rows name x each.1) is
  where
    step : (b : Bool) → (found_in rows name ≡ Some x → P x)
        → (if b then Some row.1 else found_in rows name) ≡ Some x → P x
    step true rest same = let here : row.1 ≡ x = Prim.cc (same) in subst P here each.0
    step false rest same = rest same

pub each_filtered : {A : Type 0} (P : A → Type 0) (p : A → Bool) (rows : List A) → Each P rows
    → Each P (filter p rows)
each_filtered P p [] each = tt
each_filtered P p (row ∷ rows) each = step (p row) (each_filtered P p rows each.1)
  where
    step : (b : Bool) → Each P (filter p rows) → Each P (if b then row ∷ filter p rows else filter p rows)
    step true rest = (each.0, rest)
    step false rest = rest

-- what is found among the rows that pass a test passes it
pub found_passes : {A : Type 0} (p : A → Bool) (rows : List (Name × A)) (name : Name)
    → if_some p (found_in (filter (λ row. p row.1) rows) name) ≡ true
found_passes p [] name = refl
found_passes p (row ∷ rows) name = step (p row.1) refl (found_passes p rows name)
  where
    step : (b : Bool) → p row.1 ≡ b → if_some p (found_in (filter (λ r. p r.1) rows) name) ≡ true
        → if_some p (found_in (if b then row ∷ filter (λ r. p r.1) rows else filter (λ r. p r.1) rows) name) ≡ true
    step true here rest =
        some_by p (is_name name row.0) (Some row.1) (found_in (filter (λ r. p r.1) rows) name) here rest
    step false here rest = rest
