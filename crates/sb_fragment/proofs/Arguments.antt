-- The arguments of a term, and pairs of them.
use Rattle.std.proofs.Common.{◌≡◌, ℕ, zero, suc, ◌<◌, ◌≤◌, Bool, true, ◌&&◌, nat_lt, List, [], ◌∷◌, length, get_or, All, Option, Some, option_map, Vec, Global, refl, sym, ap, ◌∙◌, arith}
use Rattle.std.specs.List.{list_all}
use Rattle.std.proofs.lemmas.Bool.{and_parts, and_from, ltb-true, lt-ltb}
use Rattle.sb_meaning.specs.Terms.{Term}
use Rattle.sb_term.specs.Numbered.{term_at, terms_at}
use Rattle.sb_fragment.specs.Compared.{compared}
use Rattle.sb_fragment.specs.Shapes.{are_numbers, terms_of_pairs}
use Rattle.sb_fragment.proofs.ComparedPairs.{compared_all, compared_map}

pub items_some : {A : Type 0} (o : Option (Vec A Global)) (v : Vec A Global) → o ≡ Some v
    → option_map (λ w. w.items) o ≡ Some v.items
items_some o v e = ap (option_map (λ w. w.items)) e

pub below_all : (n m : ℕ) (is : List ℕ) → m ≤ n → All (λ i. i < m) is → list_all (λ i. nat_lt i n) is ≡ true
below_all n m [] le h = refl
below_all n m (i ∷ is) le h =
    and_from (nat_lt i n) (list_all (λ j. nat_lt j n) is) (lt-ltb i n (omega (arith, le, h 0 0 (omega arith))))
    (below_all n m is le (λ k d l. h (suc k) d (omega (arith, l))))

pub numbers_compared : (n m : ℕ) (distinct : Bool) (is : List ℕ) → m ≤ n → All (λ i. i < m) is
    → are_numbers n (compared distinct is) ≡ true
numbers_compared n m distinct is le h = compared_all (λ i. nat_lt i n) distinct is (below_all n m is le h)

pub number_at : (n : ℕ) (ps : List (ℕ × ℕ)) (i : ℕ) (p : ℕ × ℕ) → are_numbers n ps ≡ true → i < length ps
    → p ≡ get_or ps i p → (p.0 < n) × (p.1 < n)
number_at n [] i p h within e = absurd (omega (arith, within))
number_at n (q ∷ ps) zero p h within e =
    let both = ap (λ (r : ℕ × ℕ). nat_lt r.0 n && nat_lt r.1 n) e
    ∙ (and_parts (nat_lt q.0 n && nat_lt q.1 n) (are_numbers n ps) h).0 in
    let two = and_parts (nat_lt p.0 n) (nat_lt p.1 n) both in
    (ltb-true p.0 n two.0, ltb-true p.1 n two.1)
number_at n (q ∷ ps) (suc i) p h within e =
    number_at n ps i p (and_parts (nat_lt q.0 n && nat_lt q.1 n) (are_numbers n ps) h).1 (omega (arith, within)) e

pub terms_compared : (ts : List Term) (distinct : Bool) (is : List ℕ)
    → terms_of_pairs ts (compared distinct is) ≡ compared distinct (terms_at ts is)
terms_compared ts distinct is = sym (compared_map (term_at ts) distinct is)

pub all_at : {X : Type 0} (test : X → Bool) (xs : List X) (i : ℕ) (x : X) → list_all test xs ≡ true → i < length xs
    → x ≡ get_or xs i x → test x ≡ true
all_at test [] i x h within e = absurd (omega (arith, within))
all_at test (y ∷ xs) zero x h within e = ap test e ∙ (and_parts (test y) (list_all test xs) h).0
all_at test (y ∷ xs) (suc i) x h within e =
    all_at test xs i x (and_parts (test y) (list_all test xs) h).1 (omega (arith, within)) e

abbrev pub pair_at : List Term → ℕ × ℕ → Term × Term
pair_at ts p = (term_at ts p.0, term_at ts p.1)

pub pair_within : (ts : List Term) (ps : List (ℕ × ℕ)) (i : ℕ) → i < length ps → i < length (terms_of_pairs ts ps)
pair_within ts [] i within = absurd (omega (arith, within))
pair_within ts (q ∷ ps) zero within = omega arith
pair_within ts (q ∷ ps) (suc i) within =
    let lt-ltb = pair_within ts ps i (omega (arith, within)) in omega (arith, lt-ltb)

pub pair_read : (ts : List Term) (ps : List (ℕ × ℕ)) (i : ℕ) (p : ℕ × ℕ) → i < length ps → p ≡ get_or ps i p
    → pair_at ts p ≡ get_or (terms_of_pairs ts ps) i (pair_at ts p)
pair_read ts [] i p within e = absurd (omega (arith, within))
pair_read ts (q ∷ ps) zero p within e = ap (pair_at ts) e
pair_read ts (q ∷ ps) (suc i) p within e = pair_read ts ps i p (omega (arith, within)) e

pub pairs_done : (ts : List Term) (ps : List (ℕ × ℕ)) (i : ℕ) → length ps ≤ i → length (terms_of_pairs ts ps) ≤ i
pairs_done ts [] i done = omega arith
pairs_done ts (q ∷ ps) zero done = absurd (omega (arith, done))
pairs_done ts (q ∷ ps) (suc i) done = let rest = pairs_done ts ps i (omega (arith, done)) in omega (arith, rest)
