-- Lists that a loop makes, one element a turn.
use Rattle.std.proofs.Common.{◌≡◌, ℕ, ◌+◌, ◌<◌, List, [], ◌∷◌, ◌++◌, length, get_or, map, take, sym, ap, ap₂, ◌∙◌}
use Rattle.std.proofs.lemmas.List.{map-append, take_more}

pub taken_one : {A : Type 0} (xs ys after : List A) (i : ℕ) (x y : A) → i < length xs → x ≡ get_or xs i x → y ≡ x
    → ys ≡ take i xs → after ≡ ys ++ y ∷ [] → after ≡ take (i + 1) xs
taken_one xs ys after i x y l is same so_far pushed =
    pushed ∙ ap₂ (λ a b. a ++ b ∷ []) so_far (same ∙ is) ∙ sym (take_more xs i x l)

pub mapped_one : {A B : Type 0} (f : A → B) (xs : List A) (ys after : List B) (i : ℕ) (x : A) (y : B) → i < length xs
    → x ≡ get_or xs i x → y ≡ f x → ys ≡ map f (take i xs) → after ≡ ys ++ y ∷ [] → after ≡ map f (take (i + 1) xs)
mapped_one f xs ys after i x y l is same so_far pushed =
    pushed
    ∙ ap₂ (λ a b. a ++ b ∷ []) so_far (same ∙ ap f is)
    ∙ sym (map-append f (take i xs) (get_or xs i x ∷ []))
    ∙ ap (map f) (sym (take_more xs i x l))
