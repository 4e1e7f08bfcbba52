-- Relations of what is compared two by two.
use Rattle.std.proofs.Common.{◌≡◌, List, [], ◌∷◌, ◌++◌, map, Option, refl, ap}
use Rattle.sb_lit.specs.declared.clause.Lit.{Lit}
use Rattle.sb_rulebook.specs.Translation.{of_neighbours, of_pairs}
use Rattle.sb_fragment.specs.Compared.{neighbours, pairs}

pub neighbours_of : {X A : Type 0} (relation : A → A → Option Lit) (g : X → A) (xs : List X)
    → of_neighbours relation (map g xs) ≡ map (λ p. relation (g p.0) (g p.1)) (neighbours xs)
neighbours_of relation g [] = refl
neighbours_of relation g (x ∷ []) = refl
neighbours_of relation g (x ∷ y ∷ xs) =
    ap (λ os. relation (g x) (g y) ∷ os) (neighbours_of relation g (y ∷ xs))

with_each_of : {X A : Type 0} (relation : A → A → Option Lit) (g : X → A) (x : X) (xs : List X) (ps : List (X × X))
    (os : List (Option Lit)) → os ≡ map (λ p. relation (g p.0) (g p.1)) ps
    → map (relation (g x)) (map g xs) ++ os ≡ map (λ p. relation (g p.0) (g p.1)) (map (λ y. (x, y)) xs ++ ps)
with_each_of relation g x [] ps os h = h
with_each_of relation g x (y ∷ xs) ps os h =
    ap (λ all. relation (g x) (g y) ∷ all) (with_each_of relation g x xs ps os h)

pub pairs_of : {X A : Type 0} (relation : A → A → Option Lit) (g : X → A) (xs : List X)
    → of_pairs relation (map g xs) ≡ map (λ p. relation (g p.0) (g p.1)) (pairs xs)
pairs_of relation g [] = refl
pairs_of relation g (x ∷ xs) =
    with_each_of relation g x xs (pairs xs) (of_pairs relation (map g xs)) (pairs_of relation g xs)
