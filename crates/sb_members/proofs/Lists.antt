-- What holds of each element of a list, element by element.
use Rattle.std.proofs.Common.{zero, suc, List, [], ◌∷◌, ◌++◌, refl, subst, ◌∙◌, arith}
use Rattle.std.proofs.lemmas.List.{length-append, get_or_append_left}
use Rattle.std.specs.List.{All, Contains}

abbrev pub Each : {A : Type 0} → (A → Type 0) → List A → Type 0
Each P [] = Unit {0}
Each P (x ∷ xs) = P x × Each P xs

pub each_all : {A : Type 0} (P : A → Type 0) (xs : List A) → Each P xs → All P xs
each_all P [] e k d h = absurd (omega (arith, h))
each_all P (x ∷ xs) e zero d h = e.0
each_all P (x ∷ xs) e (suc k) d h = each_all P xs e.1 k d (omega (arith, h))

pub all_each : {A : Type 0} (P : A → Type 0) (xs : List A) → All P xs → Each P xs
all_each P [] h = tt
all_each P (x ∷ xs) h = (h 0 x (omega arith), all_each P xs (λ k d l. h (suc k) d (omega (arith, l))))

pub each_in : {A : Type 0} (P : A → Type 0) (xs : List A) (x : A) → Each P xs → Contains xs x → P x
each_in P xs x e c = subst P c.2 (each_all P xs e c.0 x c.1)

pub each_as : {A : Type 0} (P Q : A → Type 0) → ((x : A) → P x → Q x) → (xs : List A) → Each P xs → Each Q xs
each_as P Q f [] e = tt
each_as P Q f (x ∷ xs) e = (f x e.0, each_as P Q f xs e.1)

pub contains_left : {A : Type 0} (xs ys : List A) (x : A) → Contains xs x → Contains (xs ++ ys) x
contains_left xs ys x h =
    (h.0, (omega (arith, h.1, length-append xs ys)), (get_or_append_left xs ys x h.0 h.1 ∙ h.2))

pub contains_right : {A : Type 0} (xs ys : List A) (x : A) → Contains ys x → Contains (xs ++ ys) x
contains_right [] ys x h = h
contains_right (y ∷ xs) ys x h =
    let r = contains_right xs ys x h in (suc r.0, (omega (arith, r.1)), r.2)

pub contains_last : {A : Type 0} (xs : List A) (x : A) → Contains (xs ++ x ∷ []) x
contains_last xs x = contains_right xs (x ∷ []) x (0, (omega arith), refl)
