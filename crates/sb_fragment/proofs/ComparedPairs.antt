-- What is compared two by two.
use Rattle.std.proofs.Common.{◌≡◌, ◌<◌, Bool, true, false, ◌&&◌, List, [], ◌∷◌, ◌++◌, length, map, take, drop, get_or, ℕ, zero, suc, ◌+◌, ◌≤◌, refl, sym, ap, ap₂, ◌∙◌, arith}
use Rattle.std.specs.List.{list_all}
use Rattle.std.proofs.lemmas.Bool.{and_parts, and_from}
use Rattle.std.proofs.lemmas.List.{append-nil, append_assoc, map-append, take_all, take_more}
use Rattle.std.proofs.Math.Bool.{and-true}
use Rattle.sb_meaning.specs.Truth.{are_pairs}
use Rattle.sb_fragment.specs.Compared.{neighbours, pairs, compared, each_two, facing}

-- A test of all is one of all pairs.

neighbours_all : {X : Type 0} (test : X → Bool) (xs : List X) → list_all test xs ≡ true
    → list_all (λ p. test p.0 && test p.1) (neighbours xs) ≡ true
neighbours_all test [] h = refl
neighbours_all test (x ∷ []) h = refl
neighbours_all test (x ∷ y ∷ xs) h =
    let p = and_parts (test x) (list_all test (y ∷ xs)) h in
    let q = and_parts (test y) (list_all test xs) p.1 in
    and_from (test x && test y) (list_all (λ p. test p.0 && test p.1) (neighbours (y ∷ xs)))
    (and_from (test x) (test y) p.0 q.0) (neighbours_all test (y ∷ xs) p.1)

with_each_all : {X : Type 0} (test : X → Bool) (x : X) (xs : List X) (ps : List (X × X)) → test x ≡ true
    → list_all test xs ≡ true → list_all (λ p. test p.0 && test p.1) ps ≡ true
    → list_all (λ p. test p.0 && test p.1) (map (λ y. (x, y)) xs ++ ps) ≡ true
with_each_all test x [] ps p q r = r
with_each_all test x (y ∷ xs) ps p q r =
    let s = and_parts (test y) (list_all test xs) q in
    and_from (test x && test y) (list_all (λ p. test p.0 && test p.1) (map (λ z. (x, z)) xs ++ ps))
    (and_from (test x) (test y) p s.0) (with_each_all test x xs ps p s.1 r)

pairs_all : {X : Type 0} (test : X → Bool) (xs : List X) → list_all test xs ≡ true
    → list_all (λ p. test p.0 && test p.1) (pairs xs) ≡ true
pairs_all test [] h = refl
pairs_all test (x ∷ xs) h =
    let p = and_parts (test x) (list_all test xs) h in
    with_each_all test x xs (pairs xs) p.0 p.1 (pairs_all test xs p.1)

pub compared_all : {X : Type 0} (test : X → Bool) (distinct : Bool) (xs : List X) → list_all test xs ≡ true
    → list_all (λ p. test p.0 && test p.1) (compared distinct xs) ≡ true
compared_all test true xs h = pairs_all test xs h
compared_all test false xs h = neighbours_all test xs h

-- A relation between each two.

with_each_test : {X : Type 0} (test : X → X → Bool) (x : X) (xs : List X) (ps : List (X × X)) (b : Bool)
    → b ≡ list_all (λ p. test p.0 p.1) ps
    → (list_all (test x) xs && b) ≡ list_all (λ p. test p.0 p.1) (map (λ y. (x, y)) xs ++ ps)
with_each_test test x [] ps b h = h
with_each_test test x (y ∷ xs) ps b h = step (test x y) (with_each_test test x xs ps b h)
  where
    step : (c : Bool)
        → (list_all (test x) xs && b) ≡ list_all (λ p. test p.0 p.1) (map (λ z. (x, z)) xs ++ ps)
        → ((c && list_all (test x) xs) && b)
        ≡ (c && list_all (λ p. test p.0 p.1) (map (λ z. (x, z)) xs ++ ps))
    step true rest = rest
    step false rest = refl

pub pairs_all_test : {X : Type 0} (test : X → X → Bool) (xs : List X)
    → are_pairs test xs ≡ list_all (λ p. test p.0 p.1) (pairs xs)
pairs_all_test test [] = refl
pairs_all_test test (x ∷ xs) = with_each_test test x xs (pairs xs) (are_pairs test xs) (pairs_all_test test xs)

-- Those with which one in front is compared.

pub two_more : {X : Type 0} (distinct : Bool) (test : X → X → Bool) (x : X) (xs : List X)
    → each_two distinct test (x ∷ xs) ≡ (list_all (test x) (facing distinct xs) && each_two distinct test xs)
two_more true test x xs = refl
two_more false test x [] = refl
two_more false test x (y ∷ xs) = ap (λ b. b && each_two false test (y ∷ xs)) (sym (and-true (test x y)))

-- what holds of both of each two holds of all, where there are two
pub two_all : {X : Type 0} (distinct : Bool) (test : X → X → Bool) (P : X → Type 0) (x y : X) (xs : List X)
    → ((a b : X) → test a b ≡ true → P a × P b) → each_two distinct test (x ∷ y ∷ xs) ≡ true
    → P x × (P y × ((k : ℕ) (d : X) → k < length xs → P (get_or xs k d)))
two_all {X = X} distinct test P x y xs both h = (first distinct h, step distinct x y xs h)
  where
    first : (distinct : Bool) → each_two distinct test (x ∷ y ∷ xs) ≡ true → P x
    first true h =
        let all = and_parts (list_all (test x) (y ∷ xs)) (each_two true test (y ∷ xs)) h in
        (both x y (and_parts (test x y) (list_all (test x) xs) all.0).0).0
    first false h = (both x y (and_parts (test x y) (each_two false test (y ∷ xs)) h).0).0

    row : (z : X) (zs : List X) → list_all (test z) zs ≡ true → (k : ℕ) (d : X) → k < length zs → P (get_or zs k d)
    row z [] h k d l = absurd (omega arith)
    row z (w ∷ zs) h zero d l = (both z w (and_parts (test z w) (list_all (test z) zs) h).0).1
    row z (w ∷ zs) h (suc k) d l = row z zs (and_parts (test z w) (list_all (test z) zs) h).1 k d (omega (arith, l))

    chain : (z : X) (zs : List X) → each_two false test (z ∷ zs) ≡ true → (k : ℕ) (d : X) → k < length zs
        → P (get_or zs k d)
    chain z [] h k d l = absurd (omega arith)
    chain z (w ∷ zs) h zero d l = (both z w (and_parts (test z w) (each_two false test (w ∷ zs)) h).0).1
    chain z (w ∷ zs) h (suc k) d l =
        chain w zs (and_parts (test z w) (each_two false test (w ∷ zs)) h).1 k d (omega (arith, l))

    step : (distinct : Bool) (x y : X) (xs : List X) → each_two distinct test (x ∷ y ∷ xs) ≡ true
        → P y × ((k : ℕ) (d : X) → k < length xs → P (get_or xs k d))
    step true x y xs h =
        let all = row x (y ∷ xs) (and_parts (list_all (test x) (y ∷ xs)) (each_two true test (y ∷ xs)) h).0 in
        (all 0 y (omega arith), λ k d l. all (suc k) d (omega (arith, l)))
    step false x y xs h =
        let all = chain x (y ∷ xs) h in
        (all 0 y (omega arith), λ k d l. all (suc k) d (omega (arith, l)))

-- Maps.

pub map-map : {X Y Z : Type 0} (g : Y → Z) (f : X → Y) (xs : List X) → map g (map f xs) ≡ map (λ x. g (f x)) xs
map-map g f [] = refl
map-map g f (x ∷ xs) = ap (λ ys. g (f x) ∷ ys) (map-map g f xs)

pub map_same : {X Y : Type 0} (test : X → Bool) (f g : X → Y) (xs : List X) → list_all test xs ≡ true
    → ((x : X) → test x ≡ true → f x ≡ g x) → map f xs ≡ map g xs
map_same test f g [] h same = refl
map_same test f g (x ∷ xs) h same =
    let p = and_parts (test x) (list_all test xs) h in
    ap₂ (λ y ys. y ∷ ys) (same x p.0) (map_same test f g xs p.1 same)

-- Pairs of what a function makes.

neighbours_map : {X Y : Type 0} (g : X → Y) (xs : List X)
    → neighbours (map g xs) ≡ map (λ p. (g p.0, g p.1)) (neighbours xs)
neighbours_map g [] = refl
neighbours_map g (x ∷ []) = refl
neighbours_map g (x ∷ y ∷ xs) = ap (λ ps. (g x, g y) ∷ ps) (neighbours_map g (y ∷ xs))

with_each_map : {X Y : Type 0} (g : X → Y) (x : X) (xs : List X) (ps : List (X × X)) (qs : List (Y × Y))
    → qs ≡ map (λ p. (g p.0, g p.1)) ps
    → map (λ y. (g x, y)) (map g xs) ++ qs ≡ map (λ p. (g p.0, g p.1)) (map (λ y. (x, y)) xs ++ ps)
with_each_map g x [] ps qs h = h
with_each_map g x (y ∷ xs) ps qs h = ap (λ all. (g x, g y) ∷ all) (with_each_map g x xs ps qs h)

pairs_map : {X Y : Type 0} (g : X → Y) (xs : List X) → pairs (map g xs) ≡ map (λ p. (g p.0, g p.1)) (pairs xs)
pairs_map g [] = refl
pairs_map g (x ∷ xs) = with_each_map g x xs (pairs xs) (pairs (map g xs)) (pairs_map g xs)

pub compared_map : {X Y : Type 0} (g : X → Y) (distinct : Bool) (xs : List X)
    → compared distinct (map g xs) ≡ map (λ p. (g p.0, g p.1)) (compared distinct xs)
compared_map g true xs = pairs_map g xs
compared_map g false xs = neighbours_map g xs

-- What is left of a list.

pub neighbours_end : {X : Type 0} (found all : List (X × X)) (left : List X) → found ++ neighbours left ≡ all
    → length left < 2 → found ≡ all
neighbours_end found all [] h short = sym (append-nil found) ∙ h
neighbours_end found all (x ∷ []) h short = sym (append-nil found) ∙ h
neighbours_end found all (x ∷ y ∷ left) h short = absurd (omega (arith, short))

pub pairs_end : {X : Type 0} (found all : List (X × X)) (left : List X) → found ++ pairs left ≡ all
    → length left < 1 → found ≡ all
pairs_end found all [] h short = sym (append-nil found) ∙ h
pairs_end found all (x ∷ left) h short = absurd (omega (arith, short))

pub neighbours_step : {X : Type 0} (found more all : List (X × X)) (left rest : List X) (x y : X) → 1 < length left
    → rest ≡ drop 1 left → x ≡ get_or left 0 x → y ≡ get_or left 1 y → found ++ neighbours left ≡ all
    → more ≡ found ++ (x, y) ∷ [] → more ++ neighbours rest ≡ all
neighbours_step found more all [] rest x y long e first second h put = absurd (omega (arith, long))
neighbours_step found more all (z ∷ []) rest x y long e first second h put = absurd (omega (arith, long))
neighbours_step found more all (z ∷ w ∷ left) rest x y long e first second h put =
    ap₂ (λ us vs. us ++ neighbours vs) put e
    ∙ append_assoc found ((x, y) ∷ []) (neighbours (w ∷ left))
    ∙ ap₂ (λ u v. found ++ (u, v) ∷ neighbours (w ∷ left)) first second
    ∙ h

pub pairs_step : {X : Type 0} (found more all : List (X × X)) (left rest : List X) (x : X) → 0 < length left
    → rest ≡ drop 1 left → x ≡ get_or left 0 x → found ++ pairs left ≡ all
    → more ≡ found ++ map (λ y. (x, y)) rest → more ++ pairs rest ≡ all
pairs_step found more all [] rest x long e first h put = absurd (omega (arith, long))
pairs_step found more all (z ∷ left) rest x long e first h put =
    let same : x ≡ z = first in
    ap (λ us. us ++ pairs rest) put
    ∙ append_assoc found (map (λ y. (x, y)) rest) (pairs rest)
    ∙ ap (λ ys. found ++ (map (λ y. (x, y)) ys ++ pairs ys)) e
    ∙ ap (λ u. found ++ (map (λ y. (u, y)) left ++ pairs left)) same
    ∙ h

-- What is put, one for each item.

pub put_more : {X Y : Type 0} (f : X → Y) (xs : List X) (i : ℕ) (x : X) (front found more : List Y) → i < length xs
    → x ≡ get_or xs i x → found ≡ front ++ map f (take i xs) → more ≡ found ++ f x ∷ []
    → more ≡ front ++ map f (take (i + 1) xs)
put_more f xs i x front found more within at so_far put =
    put
    ∙ ap (λ us. us ++ f x ∷ []) so_far
    ∙ append_assoc front (map f (take i xs)) (f x ∷ [])
    ∙ ap (λ us. front ++ us)
    (ap (λ u. map f (take i xs) ++ f u ∷ []) at
    ∙ sym (map-append f (take i xs) (get_or xs i x ∷ []))
    ∙ ap (map f) (sym (take_more xs i x within)))

pub put_all : {X Y : Type 0} (f : X → Y) (xs : List X) (i : ℕ) (front found : List Y) → length xs ≤ i
    → found ≡ front ++ map f (take i xs) → found ≡ front ++ map f xs
put_all f xs i front found past so_far = so_far ∙ ap (λ us. front ++ map f us) (take_all i xs past)
