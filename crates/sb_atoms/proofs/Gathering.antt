-- What a loop gathers, one for each item.
use Rattle.std.proofs.Common.{◌≡◌, ℕ, zero, suc, ◌+◌, ◌<◌, ◌≤◌, List, [], ◌∷◌, ◌++◌, length, map, take, get_or, sym, ap, ◌∙◌, arith}
use Rattle.std.proofs.lemmas.List.{append_assoc, map-append, length-map, take_all, take_more}

module _ {A B : Type 0} (f : A → B) (xs : List A) (i : ℕ) where
  -- one more behind those in front and those of the items so far
  pub mapped-more : (d : A) (front ys zs : List B) (y : B) → i < length xs → ys ≡ front ++ map f (take i xs)
      → y ≡ f (get_or xs i d) → zs ≡ ys ++ y ∷ [] → zs ≡ front ++ map f (take (i + 1) xs)
  mapped-more d front ys zs y within so_far is pushed =
      pushed
      ∙ ap (λ us. us ++ y ∷ []) so_far
      ∙ append_assoc front (map f (take i xs)) (y ∷ [])
      ∙ ap (λ us. front ++ us)
      (ap (λ z. map f (take i xs) ++ z ∷ []) is
      ∙ sym (map-append f (take i xs) (get_or xs i d ∷ []))
      ∙ ap (map f) (sym (take_more xs i d within)))

  pub mapped-all : (front ys : List B) → length xs ≤ i → ys ≡ front ++ map f (take i xs) → ys ≡ front ++ map f xs
  mapped-all front ys past so_far = so_far ∙ ap (λ us. front ++ map f us) (take_all i xs past)

-- What is made of each item, by its place.

pub mapped-within : {A B : Type 0} (f : A → B) (xs : List A) (i : ℕ) → i < length xs → i < length (map f xs)
mapped-within f xs i within = omega (arith, within, length-map xs f)

pub mapped-read : {A B : Type 0} (f : A → B) (xs : List A) (i : ℕ) (x : A) → i < length xs → x ≡ get_or xs i x
    → f x ≡ get_or (map f xs) i (f x)
mapped-read f [] i x within at = absurd (omega (arith, within))
mapped-read f (y ∷ ys) zero x within at = ap f at
mapped-read f (y ∷ ys) (suc i) x within at = mapped-read f ys i x (omega (arith, within)) at

pub mapped-done : {A B : Type 0} (f : A → B) (xs : List A) (i : ℕ) → length xs ≤ i → length (map f xs) ≤ i
mapped-done f xs i done = omega (arith, done, length-map xs f)
