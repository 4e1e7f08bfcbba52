-- Lists of points: what covers what, the last point up to a number, and the ends of ranges.
use Rattle.std.proofs.Common.{◌≡◌, ℕ, zero, suc, ◌+◌, ◌-◌, ◌<◌, ◌≤◌, Bool, true, false, cond, Some, List, [], ◌∷◌, ◌++◌, length, get_or, take, refl, sym, ap, ap₂, subst, ◌∙◌, arith}
use Rattle.std.specs.Prelude.{None, Option, IsSome, is_some, nat_le, nat_lt, ◌||◌, ◌&&◌, slice_get, not}
use Rattle.std.specs.List.{All, list_all, list_any}
use Rattle.std.specs.List.Sorted.{IsStrictlyIncreasing, IsStrictlySortedBy}
use Rattle.std.specs.Ordering.{nat_cmp, match_ordering}
use Rattle.std.specs.BTreeSet.{insert_key}
use Rattle.std.specs.BTreeMap.{is_at}
use Rattle.std.proofs.lemmas.Bool.{and_parts, or_left, or_right, true≢false}
use Rattle.std.proofs.lemmas.Bool.Decides.{nat_tests}
use Rattle.std.proofs.lemmas.List.Elements.{All-append, All-cons, All-nil}
use Rattle.std.proofs.lemmas.List.Folds.{list_all-append}
use Rattle.std.proofs.lemmas.Map.Keys.{IsStrictlyIncreasing-from_sorted, sorted_from_strictly_increasing, sorted_tail, below_from_sorted}
use Rattle.std.specs.declared.cmp.Ordering.{Ordering}
use Rattle.std.specs.declared.cmp.Ordering.TheVariants.{Less, Equal, Greater}
use Rattle.sb_class.specs.Ranges.{Range, in_range, in_ranges}
use Rattle.sb_word.specs.Words.{is_character}
use Rattle.sb_plain.specs.CutPoints.{none_between, ArePoints}
use Rattle.sb_plain.specs.Making.{floor, stretch, Covers, Parts}

pub pushed_parts : (t : ℕ → Bool) (xs xs' : List ℕ) (x : ℕ) → xs' ≡ xs ++ x ∷ [] → list_all t xs' ≡ true
    → (list_all t xs ≡ true) × (list_all t (x ∷ []) ≡ true)
pushed_parts t xs xs' x e h =
    and_parts (list_all t xs) _ (sym (list_all-append t xs (x ∷ [])) ∙ ap (list_all t) (sym e) ∙ h)

pub all_pushed : (p : ℕ → Type 0) (xs xs' : List ℕ) (x : ℕ) → xs' ≡ xs ++ x ∷ [] → All p xs → p x → All p xs'
all_pushed p xs xs' x e h here =
    subst (All p) (sym e) (All-append p xs (x ∷ []) h (All-cons p x [] here (All-nil p)))

pub both : (a b : Bool) → a ≡ true → b ≡ true → (a && b) ≡ true
both a b p q = ap₂ ◌&&◌ p q

equal_is : (a b : ℕ) → nat_cmp a b ≡ Equal → a ≡ b
equal_is a b h = grind (arith, nat_tests)

less_is : (a b : ℕ) → nat_cmp a b ≡ Less → a < b
less_is a b h = grind (arith, nat_tests)

-- one more key

pub all_inserted : (t : ℕ → Bool) (k : ℕ) (ks : List ℕ) → list_all t (insert_key nat_cmp ks k) ≡ true
    → (t k ≡ true) × (list_all t ks ≡ true)
all_inserted t k [] h = ((and_parts (t k) true h).0, refl)
all_inserted t k (x ∷ xs) h = step (nat_cmp k x) refl h (all_inserted t k xs)
  where
    step : (o : Ordering) → nat_cmp k x ≡ o
        → list_all t (match_ordering o (k ∷ x ∷ xs) (x ∷ xs) (x ∷ insert_key nat_cmp xs k)) ≡ true
        → (list_all t (insert_key nat_cmp xs k) ≡ true → (t k ≡ true) × (list_all t xs ≡ true))
        → (t k ≡ true) × (list_all t (x ∷ xs) ≡ true)
    step Less e g r = and_parts (t k) _ g
    step Equal e g r = (ap t (equal_is k x e) ∙ (and_parts (t x) _ g).0, g)
    step Greater e g r =
        let p = and_parts (t x) _ g in
        let q = r p.1 in
        (q.0, both (t x) _ p.0 q.1)

pub inserted_all : (t : ℕ → Bool) (k : ℕ) (ks : List ℕ) → t k ≡ true → list_all t ks ≡ true
    → list_all t (insert_key nat_cmp ks k) ≡ true
inserted_all t k [] p h = both (t k) true p refl
inserted_all t k (x ∷ xs) p h = step (nat_cmp k x) (inserted_all t k xs p)
  where
    step : (o : Ordering) → (list_all t xs ≡ true → list_all t (insert_key nat_cmp xs k) ≡ true)
        → list_all t (match_ordering o (k ∷ x ∷ xs) (x ∷ xs) (x ∷ insert_key nat_cmp xs k)) ≡ true
    step Less r = both (t k) _ p h
    step Equal r = h
    step Greater r = let q = and_parts (t x) _ h in both (t x) _ q.0 (r q.1)

-- a key that is there
pub contained : (t : ℕ → Bool) (k : ℕ) (ks : List ℕ) → list_all t ks ≡ true → list_any (is_at (nat_cmp k)) ks ≡ true
    → t k ≡ true
contained t k [] h c = absurd (cc)
contained t k (x ∷ xs) h c = step (nat_cmp k x) refl (contained t k xs (and_parts (t x) _ h).1)
  where
    later : (list_any (is_at (nat_cmp k)) xs ≡ true → t k ≡ true) → is_at (nat_cmp k) x ≡ false → t k ≡ true
    later f e = f (ap (λ b. b || list_any (is_at (nat_cmp k)) xs) (sym e) ∙ c)

    step : (o : Ordering) → nat_cmp k x ≡ o → (list_any (is_at (nat_cmp k)) xs ≡ true → t k ≡ true) → t k ≡ true
    step Less e f = later f (grind (arith, nat_tests))
    step Equal e f = ap t (equal_is k x e) ∙ (and_parts (t x) _ h).0
    step Greater e f = later f (grind (arith, nat_tests))

pub was_there : (added there : Bool) → added ≡ not there → added ≡ false → there ≡ true
was_there added true e f = refl
was_there added false e f = absurd (cc)

pub put_seen : (k : ℕ) (xs xs' ks ks' : List ℕ) → xs' ≡ xs ++ k ∷ [] → ks' ≡ insert_key nat_cmp ks k → Covers xs ks
    → Covers xs' ks'
put_seen k xs xs' ks ks' e f v t h =
    let p = and_parts (list_all t xs) _ (sym (list_all-append t xs (k ∷ [])) ∙ ap (list_all t) (sym e) ∙ h) in
    ap (list_all t) f ∙ inserted_all t k ks (and_parts (t k) true p.1).0 (v t p.0)

head_kept : (k : ℕ) (ks : List ℕ) → slice_get ks 0 ≡ Some 0 → slice_get (insert_key nat_cmp ks k) 0 ≡ Some 0
head_kept k [] h = absurd (cc)
head_kept k (x ∷ xs) h = step (nat_cmp k x) refl
  where
    zero_is : x ≡ 0
    zero_is = cc

    step : (o : Ordering) → nat_cmp k x ≡ o
        → slice_get (match_ordering o (k ∷ x ∷ xs) (x ∷ xs) (x ∷ insert_key nat_cmp xs k)) 0 ≡ Some 0
    step Less e = let l = less_is k x e in absurd (omega (arith, l, zero_is))
    step Equal e = h
    step Greater e = h

pub none_left : {A : Type 0} (ks : List A) (o : Option A) → o ≡ None → (0 < length ks → IsSome o) → ks ≡ []
none_left [] o e f = refl
none_left (k ∷ ks) o e f = absurd (true≢false (sym (f (omega arith)) ∙ ap is_some e))

pub points_inserted : (k : ℕ) (ks ks' : List ℕ) → ks' ≡ insert_key nat_cmp ks k → IsStrictlySortedBy nat_cmp ks'
    → k ≤ 0x2ffff → ArePoints ks → ArePoints ks'
points_inserted k ks ks' is s l p = record {
  ascending = IsStrictlyIncreasing-from_sorted ks' s;
  first = ap (λ xs. slice_get xs 0) is ∙ head_kept k ks p.first;
  characters = ap (list_all is_character) is ∙ inserted_all is_character k ks (grind (arith, nat_tests)) p.characters;
}

pub covers_inserted : (k : ℕ) (ks ks' : List ℕ) → ks' ≡ insert_key nat_cmp ks k → Covers ks' ks
covers_inserted k ks ks' is t h = (all_inserted t k ks (ap (list_all t) (sym is) ∙ h)).1

pub covers_new : (k : ℕ) (ks ks' : List ℕ) → ks' ≡ insert_key nat_cmp ks k → Covers ks' (k ∷ [])
covers_new k ks ks' is t h = both (t k) true (all_inserted t k ks (ap (list_all t) (sym is) ∙ h)).0 refl

-- one more element is covered
taken : (ys xs : List ℕ) (i x : ℕ) → i < length xs → x ≡ get_or xs i x → Covers ys (take i xs)
    → Covers ys (x ∷ []) → Covers ys (take (suc i) xs)
taken ys [] i x l is p q = absurd (omega (arith, l))
taken ys (y ∷ xs) zero x l is p q = λ t h. ap (λ z. t z && true) (sym is) ∙ q t h
taken ys (y ∷ xs) (suc i) x l is p q =
    λ t h. let a = and_parts (t y) _ (p t h) in
    both (t y) _ a.0 (taken ys xs i x (omega (arith, l)) is (λ s g. (and_parts (s y) _ (p s g)).1) q t h)

one_more : (i : ℕ) → i + 1 ≡ suc i
one_more i = omega arith

-- the last point up to a number

pub floor_at : (points : List ℕ) (c i d : ℕ) → i ≤ length points
    → ((k : ℕ) → k < i → get_or points k 0 ≤ c)
    → ((k : ℕ) → i ≤ k → k < length points → c < get_or points k 0)
    → get_or (d ∷ points) i 0 ≡ floor d points c
unfolding floor
floor_at [] c zero d l a b = refl
floor_at [] c (suc i) d l a b = absurd (omega (arith, l))
floor_at (p ∷ ps) c zero d l a b =
    let m : c < p = b 0 (omega arith) (omega arith) in
    let e : nat_le p c ≡ false = grind (arith, nat_tests) in
    floor_at ps c zero d (omega arith) (λ k z. absurd (omega (arith, z))) (λ k y z. b (suc k) (omega arith)
    (omega (arith, z))) ∙ ap (λ x. floor (cond x p d) ps c) (sym e)
floor_at (p ∷ ps) c (suc i) d l a b =
    let m : p ≤ c = a 0 (omega arith) in
    let e : nat_le p c ≡ true = grind (arith, nat_tests) in
    floor_at ps c i p (omega (arith, l)) (λ k z. a (suc k) (omega (arith, z))) (λ k y z. b (suc k) (omega (arith, y))
    (omega (arith, z))) ∙ ap (λ x. floor (cond x p d) ps c) (sym e)

-- the element before a place
pub before : (points : List ℕ) (i d : ℕ) → 0 < i → get_or points (i - 1) 0 ≡ get_or (d ∷ points) i 0
before points zero d l = absurd (omega (arith, l))
before points (suc i) d l = let z : suc i - 1 ≡ i = omega arith in ap (λ j. get_or points j 0) z

floor_le : (points : List ℕ) (c d : ℕ) → d ≤ c → floor d points c ≤ c
unfolding floor
floor_le [] c d l = l
floor_le (p ∷ ps) c d l = floor_le ps c (cond (nat_le p c) p d) (step (nat_le p c) refl)
  where
    step : (b : Bool) → nat_le p c ≡ b → cond b p d ≤ c
    step true e = grind (arith, nat_tests)
    step false e = l

head_below : (p : ℕ) (ps : List ℕ) → IsStrictlySortedBy nat_cmp (p ∷ ps) → All (λ q. p < q) ps
head_below p ps s = λ k d l. below_from_sorted (p ∷ ps) 0 (suc k) d s (omega arith) (omega (arith, l))

floor_ge : (e : ℕ) (ps : List ℕ) (c : ℕ) → All (λ q. e < q) ps → IsStrictlySortedBy nat_cmp ps → e ≤ floor e ps c
unfolding floor
floor_ge e [] c a s = omega arith
floor_ge e (q ∷ qs) c a s =
    step (nat_le q c) (floor_ge q qs c (head_below q qs s) (sorted_tail nat_cmp q qs s))
    (floor_ge e qs c (λ k d l. a (suc k) d (omega (arith, l))) (sorted_tail nat_cmp q qs s))
  where
    step : (b : Bool) → q ≤ floor q qs c → e ≤ floor e qs c → e ≤ floor (cond b q e) qs c
    step true r f = let first : e < q = a 0 0 (omega arith) in omega (arith, r, first)
    step false r f = f

floor_none : (points : List ℕ) (c d : ℕ) → IsStrictlySortedBy nat_cmp points
    → list_all (λ p. nat_le p (floor d points c) || nat_lt c p) points ≡ true
unfolding floor
floor_none [] c d s = refl
floor_none (p ∷ ps) c d s = step (nat_le p c) refl (λ x. floor_none ps c x (sorted_tail nat_cmp p ps s))
  where
    step : (b : Bool) → nat_le p c ≡ b
        → ((x : ℕ) → list_all (λ q. nat_le q (floor x ps c) || nat_lt c q) ps ≡ true)
        → list_all (λ q. nat_le q (floor (cond b p d) ps c) || nat_lt c q) (p ∷ ps) ≡ true
    step true e f =
        let g = floor_ge p ps c (head_below p ps s) (sorted_tail nat_cmp p ps s) in
        both (nat_le p (floor p ps c) || nat_lt c p) _
        (or_left (nat_le p (floor p ps c)) (nat_lt c p) (grind (arith, nat_tests, g)))
        (f p)
    step false e f =
        both (nat_le p (floor d ps c) || nat_lt c p) _
        (or_right (nat_le p (floor d ps c)) (nat_lt c p) (grind (arith, nat_tests)))
        (f d)

pub stretch_le : (points : List ℕ) (c : ℕ) → stretch points c ≤ c
stretch_le points c = floor_le points c 0 (omega arith)

pub stretch_none : (points : List ℕ) (c : ℕ) → IsStrictlyIncreasing points
    → none_between points (stretch points c) c ≡ true
stretch_none points c s = floor_none points c 0 (sorted_from_strictly_increasing points s)

-- the ends of ranges

start_same : (a c d : ℕ) → c ≤ d → d ≤ 0x2ffff → (a ≤ 0x2ffff → (nat_le a c || nat_lt d a) ≡ true)
    → nat_le a c ≡ nat_le a d
start_same a c d l m h = step (nat_le a c) (nat_le a d) refl refl
  where
    step : (x y : Bool) → nat_le a c ≡ x → nat_le a d ≡ y → x ≡ y
    step true true p q = refl
    step false false p q = refl
    step true false p q = absurd (grind (arith, nat_tests))
    step false true p q =
        let n : a ≤ d = grind (arith, nat_tests) in
        let t : nat_lt d a ≡ true = ap (λ b. b || nat_lt d a) (sym p) ∙ h (omega (arith, n, m)) in
        absurd (grind (arith, nat_tests))

end_same : (b c d : ℕ) → c ≤ d → d ≤ 0x2ffff → (b < 0x2ffff → (nat_le (b + 1) c || nat_lt d (b + 1)) ≡ true)
    → nat_le c b ≡ nat_le d b
end_same b c d l m h = step (nat_le c b) (nat_le d b) refl refl
  where
    step : (x y : Bool) → nat_le c b ≡ x → nat_le d b ≡ y → x ≡ y
    step true true p q = refl
    step false false p q = refl
    step true false p q =
        let n : b < d = grind (arith, nat_tests) in
        let z : nat_le (b + 1) c ≡ false = grind (arith, nat_tests) in
        let t : nat_lt d (b + 1) ≡ true = ap (λ x. x || nat_lt d (b + 1)) (sym z) ∙ h (omega (arith, n, m)) in
        absurd (grind (arith, nat_tests))
    step false true p q = absurd (grind (arith, nat_tests))

pub range_parts : (points : List ℕ) (r : Range) → (r.0 ≤ 0x2ffff → Covers points (r.0 ∷ []))
    → (r.1 < 0x2ffff → Covers points ((r.1 + 1) ∷ [])) → Parts points (in_range r)
unfolding in_range
range_parts points r p q c d l h n =
    let m : d ≤ 0x2ffff = grind (arith, nat_tests) in
    ap₂ ◌&&◌
    (start_same r.0 c d l m (λ a. (and_parts _ true (p a (λ x. nat_le x c || nat_lt d x) n)).0))
    (end_same r.1 c d l m (λ a. (and_parts _ true (q a (λ x. nat_le x c || nat_lt d x) n)).0))

-- a list with more points
pub parts_more : (xs ys : List ℕ) (s : ℕ → Bool) → Covers xs ys → Parts ys s → Parts xs s
parts_more xs ys s v p c d l h n = p c d l h (v (λ x. nat_le x c || nat_lt d x) n)

pub no_ranges : (points : List ℕ) → Parts points (in_ranges [])
unfolding in_ranges
no_ranges points c d l h n = refl

abbrev pub range_at : List Range → ℕ → Range
range_at rs i = get_or rs i (0, 0)

or_none : (b : Bool) → (b || false) ≡ b
or_none true = refl
or_none false = refl

or_assoc : (a b c : Bool) → (a || (b || c)) ≡ ((a || b) || c)
or_assoc true b c = refl
or_assoc false b c = refl

joined : (xs : List Range) (r : Range) (j x : ℕ) → j < length xs → r ≡ range_at xs j
    → in_ranges (take (suc j) xs) x ≡ (in_ranges (take j xs) x || in_range r x)
unfolding in_ranges
joined [] r j x m e = absurd (omega (arith, m))
joined (y ∷ xs) r zero x m e = or_none (in_range y x) ∙ ap (λ z. in_range z x) (sym e)
joined (y ∷ xs) r (suc j) x m e =
    ap (λ b. in_range y x || b) (joined xs r j x (omega (arith, m)) e)
    ∙ or_assoc (in_range y x) (in_ranges (take j xs) x) (in_range r x)

pub ranges_taken : (points : List ℕ) (rs : List Range) (i : ℕ) (r : Range) → i < length rs → r ≡ range_at rs i
    → Parts points (in_ranges (take i rs)) → Parts points (in_range r) → Parts points (in_ranges (take (i + 1) rs))
ranges_taken points rs i r l is p q c d k h n =
    at c ∙ ap₂ ◌||◌ (p c d k h n) (q c d k h n) ∙ sym (at d)
  where
    at : (x : ℕ) → in_ranges (take (i + 1) rs) x ≡ (in_ranges (take i rs) x || in_range r x)
    at x = ap (λ j. in_ranges (take j rs) x) (one_more i) ∙ joined rs r i x l is
