-- Numbers, and places without one, each as one number.
use Rattle.std.proofs.Common.{◌≡◌, ℕ, zero, suc, ◌-◌, ◌+◌, ◌≤◌, List, [], ◌∷◌, ◌++◌, map, length, get_or, set, take, replicate, Option, None, Result, Ok, Err, refl, ◌∙◌, ap}
use Rattle.std.specs.Result.{OnOk, OnErr}
use Rattle.std.proofs.lemmas.List.{map-set, map-append, take_all, length-map}
use Rattle.sb_clauses.specs.Links.{link}

pub link_set : (codes : List ℕ) (at code : ℕ) (number : Option ℕ) → link code ≡ number
    → map link (set codes at code) ≡ set (map link codes) at number
link_set codes at code number is = map-set link codes at code ∙ ap (set (map link codes) at) is

link_replicate : (k : ℕ) → map link (replicate k 0) ≡ replicate k None
link_replicate zero = refl
link_replicate (suc k) = ap (λ os. None ∷ os) (link_replicate k)

pub link_grown : (codes : List ℕ) (n : ℕ) → length codes ≤ n
    → map link (take n codes ++ replicate (n - length codes) 0)
    ≡ map link codes ++ replicate (n - length (map link codes)) None
link_grown codes n more =
    map-append link (take n codes) (replicate (n - length codes) 0)
    ∙ rw (take_all n codes more, length-map codes link) (ap (λ os. map link codes ++ os) (link_replicate (n - length codes)))

-- what grew, or stayed for want of memory
pub either_way : {X E : Type 0} (r : Result X E) (P : List (Option ℕ) → Type 0) (old new more : List (Option ℕ))
    → OnOk r (new ≡ more) → OnErr r (new ≡ old) → P old → P more → P new
either_way (Ok x) P old new more ok err before after = rw ok after
either_way (Err e) P old new more ok err before after = rw err before

-- places without a number behind the others change nothing
pub padded : (os : List (Option ℕ)) (k at : ℕ) → get_or (os ++ replicate k None) at None ≡ get_or os at None
padded [] k at = none_there k at
  where
    none_there : (k at : ℕ) → get_or (replicate {A = Option ℕ} k None) at None ≡ None
    none_there zero at = refl
    none_there (suc k) zero = refl
    none_there (suc k) (suc at) = none_there k at
padded (o ∷ os) k zero = refl
padded (o ∷ os) k (suc at) = padded os k at
