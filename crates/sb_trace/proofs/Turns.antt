-- Numbers that a loop finds, one a turn.
use Rattle.std.proofs.Common.{◌≡◌, ℕ, ◌+◌, ◌<◌, Option, Some, List, [], ◌∷◌, ◌++◌, length, get_or, map, take, sym, ap, ap₂, ◌∙◌}
use Rattle.std.proofs.lemmas.List.{map-append, take_more}

pub numbered_one : (f : ℕ → Option ℕ) (xs ys after : List ℕ) (i x y : ℕ) → i < length xs → x ≡ get_or xs i x
    → f x ≡ Some y → map f (take i xs) ≡ map Some ys → after ≡ ys ++ y ∷ []
    → map f (take (i + 1) xs) ≡ map Some after
numbered_one f xs ys after i x y l is found so_far pushed =
    ap (map f) (take_more xs i x l)
    ∙ map-append f (take i xs) (get_or xs i x ∷ [])
    ∙ ap₂ (λ a b. a ++ b ∷ []) so_far (ap f (sym is) ∙ found)
    ∙ sym (map-append Some ys (y ∷ []))
    ∙ ap (map Some) (sym pushed)
