-- Lists of pieces that ascend.
use Rattle.std.proofs.Common.{◌≡◌, ℕ, zero, suc, ◌+◌, ◌<◌, ◌≤◌, Bool, true, false, not, ◌==◌, cond, List, [], ◌∷◌, ◌++◌, length, get_or, drop, map, refl, sym, ap, subst, ◌∙◌, arith}
use Rattle.std.specs.Prelude.{nat_le, nat_lt}
use Rattle.std.specs.List.{All}
use Rattle.std.proofs.lemmas.Bool.{and_parts, and_from, le-leb, leb-true, lt-leb, eqb-true}
use Rattle.std.proofs.lemmas.Bool.Decides.{nat_tests}
use Rattle.std.proofs.lemmas.List.{get_or_default, drop_more, drop_all}
use Rattle.std.proofs.lemmas.List.Elements.{All-cons}
use Rattle.sb_deriv.specs.Pieces.{value_from, rises, covers, differs_from, are_merged, IsIntervalMap}
use Rattle.sb_deriv.specs.Choices.{first_of, last_value, ends_with, IsSpan}

eq_flip : (a b : ℕ) → (a == b) ≡ false → (b == a) ≡ false
eq_flip a b h = grind (arith, nat_tests)

pub value_from-append : {A : Type 0} (d : A) (xs ys : List (ℕ × A)) (c : ℕ)
    → value_from d (xs ++ ys) c ≡ value_from (value_from d xs c) ys c
unfolding value_from
value_from-append d [] ys c = refl
value_from-append d (x ∷ xs) ys c = value_from-append (cond (nat_le x.0 c) x.1 d) xs ys c

pub value_pushed : {A : Type 0} (d : A) (xs : List (ℕ × A)) (f : ℕ) (v : A) (c : ℕ)
    → value_from d (xs ++ (f, v) ∷ []) c ≡ cond (nat_le f c) v (value_from d xs c)
unfolding value_from
value_pushed d xs f v c = value_from-append d xs ((f, v) ∷ []) c

-- ascending lists

pub rises_head : {A : Type 0} (n : ℕ) (xs : List (ℕ × A)) (e : ℕ) → rises n xs e ≡ true → n ≤ first_of e xs
unfolding rises
rises_head n [] e h = leb-true n e h
rises_head n (x ∷ xs) e h = leb-true n x.0 (and_parts _ _ h).0

pub rises_rest : {A : Type 0} (n : ℕ) (x : ℕ × A) (xs : List (ℕ × A)) (e : ℕ) → rises n (x ∷ xs) e ≡ true
    → rises (suc x.0) xs e ≡ true
unfolding rises
rises_rest n x xs e h = (and_parts _ _ h).1

pub rises_le : {A : Type 0} (n : ℕ) (xs : List (ℕ × A)) (e : ℕ) → rises n xs e ≡ true → n ≤ e
unfolding rises
rises_le n [] e h = leb-true n e h
rises_le n (x ∷ xs) e h =
    let p = and_parts _ _ h in
    let a : n ≤ x.0 = leb-true n x.0 p.0 in
    let b : suc x.0 ≤ e = rises_le (suc x.0) xs e p.1 in
    omega arith

pub rises_later_end : {A : Type 0} (n : ℕ) (xs : List (ℕ × A)) (e f : ℕ) → e ≤ f → rises n xs e ≡ true
    → rises n xs f ≡ true
unfolding rises
rises_later_end n [] e f l h = le-leb n f (let a : n ≤ e = leb-true n e h in omega arith)
rises_later_end n (x ∷ xs) e f l h = let p = and_parts _ _ h in
    and_from _ _ p.0 (rises_later_end (suc x.0) xs e f l p.1)

pub rises_from_first : {A : Type 0} (n m : ℕ) (xs : List (ℕ × A)) (e : ℕ) → rises n xs e ≡ true → m ≤ first_of e xs
    → rises m xs e ≡ true
unfolding rises
rises_from_first n m [] e h l = le-leb m e l
rises_from_first n m (x ∷ xs) e h l = and_from _ _ (le-leb m x.0 l) (and_parts _ _ h).1

pub rises_pushed : {A : Type 0} (n : ℕ) (xs : List (ℕ × A)) (f : ℕ) (v : A) (e : ℕ) → rises n xs f ≡ true → f < e
    → rises n (xs ++ (f, v) ∷ []) e ≡ true
unfolding rises
rises_pushed n [] f v e h l = and_from _ _ h (le-leb (suc f) e (omega arith))
rises_pushed n (x ∷ xs) f v e h l = let p = and_parts _ _ h in and_from _ _ p.0 (rises_pushed (suc x.0) xs f v e p.1 l)

pub above_stays : {A : Type 0} (d : A) (n : ℕ) (xs : List (ℕ × A)) (e c : ℕ) → rises n xs e ≡ true → c < n
    → value_from d xs c ≡ d
unfolding rises value_from
above_stays d n [] e c h l = refl
above_stays d n (x ∷ xs) e c h l =
    let p = and_parts _ _ h in
    let a : n ≤ x.0 = leb-true n x.0 p.0 in
    ap (λ t. value_from (cond t x.1 d) xs c) (lt-leb x.0 c (omega arith))
    ∙ above_stays d (suc x.0) xs e c p.1 (omega arith)

pub last_from : {A : Type 0} (d : A) (n : ℕ) (xs : List (ℕ × A)) (e c : ℕ) → rises n xs e ≡ true → e ≤ suc c
    → value_from d xs c ≡ last_value d xs
unfolding rises value_from last_value
last_from d n [] e c h l = refl
last_from d n (x ∷ xs) e c h l =
    let p = and_parts _ _ h in
    let a : suc x.0 ≤ e = rises_le (suc x.0) xs e p.1 in
    ap (λ t. value_from (cond t x.1 d) xs c) (le-leb x.0 c (omega arith)) ∙ last_from x.1 (suc x.0) xs e c p.1 l

pub starts_below : {A : Type 0} (n : ℕ) (xs : List (ℕ × A)) (e k : ℕ) (x : ℕ × A) → rises n xs e ≡ true
    → k < length xs → x ≡ get_or xs k x → x.0 < e
starts_below n [] e k x h l is = absurd (omega arith)
starts_below {A} n (y ∷ ys) e zero x h l is =
    let r : x ≡ y = is in
    let a : suc y.0 ≤ e = rises_le (suc y.0) ys e (rises_rest n y ys e h) in
    subst (λ (z : ℕ × A). z.0 < e) (sym r) (omega (arith, a))
starts_below n (y ∷ ys) e (suc k) x h l is =
    starts_below (suc y.0) ys e k x (rises_rest n y ys e h) (omega (arith, l)) is

-- the value of a piece is that of its first number
pub value_here : {A : Type 0} (d : A) (n : ℕ) (xs : List (ℕ × A)) (e k : ℕ) (x : ℕ × A) → rises n xs e ≡ true
    → k < length xs → x ≡ get_or xs k x → value_from d xs x.0 ≡ x.1
unfolding rises value_from
value_here d n [] e k x h l is = absurd (omega arith)
value_here {A} d n (y ∷ ys) e zero x h l is =
    let p = and_parts _ _ h in
    let r : x ≡ y = is in
    let v : value_from d (y ∷ ys) y.0 ≡ y.1 =
    ap (λ t. value_from (cond t y.1 d) ys y.0) (le-leb y.0 y.0 (omega arith))
    ∙ above_stays y.1 (suc y.0) ys e y.0 p.1 (omega arith) in
    subst (λ (z : ℕ × A). value_from d (y ∷ ys) z.0 ≡ z.1) (sym r) v
value_here d n (y ∷ ys) e (suc k) x h l is =
    let p = and_parts _ _ h in
    let m : k < length ys = omega (arith, l) in
    value_here (cond (nat_le y.0 x.0) y.1 d) (suc y.0) ys e k x p.1 m is

-- the value of a piece goes on up to the next one
pub value_between : {A : Type 0} (d : A) (n : ℕ) (xs : List (ℕ × A)) (e k c : ℕ) (z : ℕ × A) → rises n xs e ≡ true
    → k < length xs → (get_or xs k z).0 ≤ c → (suc k < length xs → c < (get_or xs (suc k) z).0)
    → value_from d xs c ≡ (get_or xs k z).1
unfolding rises value_from
value_between d n [] e k c z h l a b = absurd (omega arith)
value_between d n (x ∷ []) e zero c z h l a b = ap (λ t. cond t x.1 d) (le-leb x.0 c a)
value_between d n (x ∷ y ∷ ys) e zero c z h l a b =
    let p = and_parts _ _ h in
    ap (λ t. value_from (cond t x.1 d) (y ∷ ys) c) (le-leb x.0 c a)
    ∙ above_stays x.1 y.0 (y ∷ ys) e c (rises_from_first (suc x.0) y.0 (y ∷ ys) e p.1 (omega arith)) (b (omega arith))
value_between d n (x ∷ xs) e (suc k) c z h l a b =
    let p = and_parts _ _ h in
    value_between (cond (nat_le x.0 c) x.1 d) (suc x.0) xs e k c z p.1 (omega (arith, l)) a (λ m. b (omega (arith, m)))

pub first_at_place : {A : Type 0} (xs : List (ℕ × A)) (e i : ℕ) (z : ℕ × A) → i < length xs
    → first_of e (drop i xs) ≡ (get_or xs i z).0
first_at_place xs e i z l = ap (first_of e) (drop_more xs i z l)

first_past : {A : Type 0} (xs : List (ℕ × A)) (e i : ℕ) → length xs ≤ i → first_of e (drop i xs) ≡ e
first_past xs e i l = ap (first_of e) (drop_all i xs l)

-- whole lists

pub covers_rises : {A : Type 0} (xs : List (ℕ × A)) (e : ℕ) → covers xs e ≡ true → rises 0 xs e ≡ true
unfolding covers rises
covers_rises [] e h = le-leb 0 e (omega arith)
covers_rises (x ∷ xs) e h =
    let p = and_parts _ _ h in
    let z : x.0 ≡ 0 = eqb-true x.0 0 p.0 in
    and_from _ _ (le-leb 0 x.0 (omega arith)) (ap (λ n. rises (suc n) xs e) z ∙ p.1)

pub covers_first : {A : Type 0} (xs : List (ℕ × A)) (e : ℕ) → covers xs e ≡ true → first_of e xs ≡ 0
unfolding covers
covers_first [] e h = eqb-true e 0 h
covers_first (x ∷ xs) e h = eqb-true x.0 0 (and_parts _ _ h).0

pub covers_pushed : {A : Type 0} (xs : List (ℕ × A)) (f : ℕ) (v : A) (e : ℕ) → covers xs f ≡ true → f < e
    → covers (xs ++ (f, v) ∷ []) e ≡ true
unfolding covers rises
covers_pushed [] f v e h l =
    let z : f ≡ 0 = eqb-true f 0 h in and_from _ _ h (le-leb 1 e (omega arith))
covers_pushed (x ∷ xs) f v e h l = let p = and_parts _ _ h in and_from _ _ p.0 (rises_pushed 1 xs f v e p.1 l)

pub covers_later : {A : Type 0} (x : ℕ × A) (xs : List (ℕ × A)) (e f : ℕ) → covers (x ∷ xs) e ≡ true → e ≤ f
    → covers (x ∷ xs) f ≡ true
unfolding covers
covers_later x xs e f h l = let p = and_parts _ _ h in and_from _ _ p.0 (rises_later_end 1 xs e f l p.1)

-- the default does not count
pub value_whole : {A : Type 0} (d d' : A) (x : ℕ × A) (xs : List (ℕ × A)) (e c : ℕ) → covers (x ∷ xs) e ≡ true
    → value_from d (x ∷ xs) c ≡ value_from d' (x ∷ xs) c
unfolding covers value_from
value_whole d d' x xs e c h =
    let z : x.0 ≡ 0 = eqb-true x.0 0 (and_parts _ _ h).0 in
    let t : nat_le x.0 c ≡ true = le-leb x.0 c (omega arith) in
    ap (λ b. value_from (cond b x.1 d) xs c) t ∙ sym (ap (λ b. value_from (cond b x.1 d') xs c) t)

-- a piece goes on up to where the next one begins
pub span_of : (ps : List (ℕ × ℕ)) (c k end : ℕ) (p : ℕ × ℕ) → IsIntervalMap ps → c ≤ 0x2ffff → k < length ps
    → (get_or ps k (0, 0)).0 ≤ c → (k + 1 < length ps → c < (get_or ps (k + 1) (0, 0)).0) →
    end ≡ first_of 0x30000 (drop (k + 1) ps) → IsSpan ps c end (get_or ps k p).1
span_of ps c k end p m u l b a e = step (nat_lt (k + 1) (length ps)) refl
  where
    value : (x : ℕ) → c ≤ x → (suc k < length ps → x < (get_or ps (suc k) (0, 0)).0)
        → value_from 0 ps x ≡ (get_or ps k p).1
    value x v w =
        value_between 0 0 ps 0x30000 k x (0, 0) (covers_rises ps 0x30000 m.whole) l (omega (arith, b, v)) w
        ∙ ap (λ (q : ℕ × ℕ). q.1) (get_or_default ps k (0, 0) p l)

    next : k + 1 ≡ suc k
    next = omega arith

    step : (t : Bool) → nat_lt (k + 1) (length ps) ≡ t → IsSpan ps c end (get_or ps k p).1
    step true t =
        let i : k + 1 < length ps = grind (arith, nat_tests) in
        let f : end ≡ (get_or ps (k + 1) (0, 0)).0 = e ∙ first_at_place ps 0x30000 (k + 1) (0, 0) i in
        let w = starts_below 0 ps 0x30000 (k + 1) (get_or ps (k + 1) (0, 0)) (covers_rises ps 0x30000 m.whole) i
        (get_or_default ps (k + 1) (0, 0) (get_or ps (k + 1) (0, 0)) i) in
        record {
          later = omega (arith, f, a i);
          within = omega (arith, f, w);
          same = λ x v n. value x v
              (λ j. subst (λ (i : ℕ). x < (get_or ps i (0, 0)).0) next (subst (λ (y : ℕ). x < y) f n));
        }
    step false t =
        let i : length ps ≤ k + 1 = grind (arith, nat_tests) in
        let f : end ≡ 0x30000 = e ∙ first_past ps 0x30000 (k + 1) i in
        record {
          later = omega (arith, f, u);
          within = omega (arith, f);
          same = λ x v n. value x v (λ j. absurd (omega (arith, i, j)));
        }

-- the targets

pub value_below : (d n : ℕ) (xs : List (ℕ × ℕ)) (c : ℕ) → d < n → All (λ i. i < n) (map (λ p. p.1) xs)
    → value_from d xs c < n
unfolding value_from
value_below d n [] c l h = l
value_below d n (x ∷ xs) c l h =
    value_below (cond (nat_le x.0 c) x.1 d) n xs c (chosen (nat_le x.0 c)) (λ k e m. h (suc k) e (omega (arith, m)))
  where
    chosen : (b : Bool) → cond b x.1 d < n
    chosen true = h 0 0 (omega arith)
    chosen false = l

pub targets_pushed : (n : ℕ) (xs : List (ℕ × ℕ)) (f t : ℕ) → t < n → All (λ i. i < n) (map (λ p. p.1) xs)
    → All (λ i. i < n) (map (λ p. p.1) (xs ++ (f, t) ∷ []))
targets_pushed n [] f t l h = All-cons (λ i. i < n) t [] l h
targets_pushed n (x ∷ xs) f t l h =
    All-cons (λ i. i < n) x.1 (map (λ p. p.1) (xs ++ (f, t) ∷ [])) (h 0 0 (omega arith))
    (targets_pushed n xs f t l (λ k e m. h (suc k) e (omega (arith, m))))

-- merged lists

differs_pushed : (s : ℕ) (xs : List (ℕ × ℕ)) (f t : ℕ) → differs_from s xs ≡ true → (last_value s xs == t) ≡ false
    → differs_from s (xs ++ (f, t) ∷ []) ≡ true
unfolding differs_from last_value
differs_pushed s [] f t h l = and_from _ _ (ap not (eq_flip s t l)) refl
differs_pushed s (x ∷ xs) f t h l = let p = and_parts _ _ h in and_from _ _ p.0 (differs_pushed x.1 xs f t p.1 l)

pub merged_pushed : (xs : List (ℕ × ℕ)) (f t : ℕ) → are_merged xs ≡ true → ends_with t xs ≡ false
    → are_merged (xs ++ (f, t) ∷ []) ≡ true
unfolding are_merged differs_from ends_with
merged_pushed [] f t h l = refl
merged_pushed (x ∷ xs) f t h l = differs_pushed x.1 xs f t h l

-- where the last piece has the target already

pub same_whole : (t : ℕ) (xs : List (ℕ × ℕ)) (f e : ℕ) → ends_with t xs ≡ true → covers xs f ≡ true → f < e
    → covers xs e ≡ true
unfolding ends_with
same_whole t [] f e b h l = absurd (cc)
same_whole t (x ∷ xs) f e b h l = covers_later x xs f e h (omega arith)

pub same_value : (t : ℕ) (xs : List (ℕ × ℕ)) (f c : ℕ) → ends_with t xs ≡ true → covers xs f ≡ true
    → value_from 0 xs c ≡ cond (nat_le f c) t (value_from 0 xs c)
unfolding ends_with last_value
same_value t [] f c b h = absurd (cc)
same_value t (x ∷ xs) f c b h = step (nat_le f c) refl
  where
    step : (u : Bool) → nat_le f c ≡ u → value_from 0 (x ∷ xs) c ≡ cond u t (value_from 0 (x ∷ xs) c)
    step false is = refl
    step true is = last_from 0 0 (x ∷ xs) f c (covers_rises (x ∷ xs) f h) (let m : f ≤ c = leb-true f c is in
        omega arith) ∙ eqb-true (last_value x.1 xs) t b

-- the last piece is the one in the last place
pub last_value_at : {A : Type 0} (d : A) (xs : List (ℕ × A)) (k : ℕ) (p : ℕ × A) → suc k ≡ length xs → p ≡ get_or xs k p
    → last_value d xs ≡ p.1
unfolding last_value
last_value_at d [] k p l is = absurd (omega arith)
last_value_at {A} d (x ∷ []) k p l is =
    let z : k ≡ zero = omega arith in
    let r : p ≡ get_or (x ∷ []) zero p = is ∙ ap (λ j. get_or (x ∷ []) j p) z in
    sym (ap (λ (q : ℕ × A). q.1) r)
last_value_at d (x ∷ y ∷ ys) zero p l is = absurd (omega arith)
last_value_at d (x ∷ y ∷ ys) (suc k) p l is = last_value_at x.1 (y ∷ ys) k p (omega arith) is

pub ends_with_at : (t : ℕ) (xs : List (ℕ × ℕ)) (k : ℕ) (p : ℕ × ℕ) → suc k ≡ length xs → p ≡ get_or xs k p
    → (p.1 == t) ≡ ends_with t xs
unfolding ends_with last_value
ends_with_at t [] k p l is = absurd (omega arith)
ends_with_at t (x ∷ xs) k p l is = ap (λ v. v == t) (sym (last_value_at 0 (x ∷ xs) k p l is))

pub ends_with_none : (t : ℕ) (xs : List (ℕ × ℕ)) → length xs ≡ 0 → false ≡ ends_with t xs
unfolding ends_with
ends_with_none t [] l = refl
ends_with_none t (x ∷ xs) l = absurd (omega arith)

-- a map has a piece

pub map_some : {A : Type 0} (xs : List (ℕ × A)) (e : ℕ) → 0 < e → covers xs e ≡ true → 0 < length xs
unfolding covers
map_some [] e l h = let z : e ≡ 0 = eqb-true e 0 h in absurd (omega arith)
map_some (x ∷ xs) e l h = omega arith

pub map_starts : (xs : List (ℕ × ℕ)) (e : ℕ) → 0 < e → covers xs e ≡ true → (get_or xs 0 (0, 0)).0 ≡ 0
unfolding covers
map_starts [] e l h = refl
map_starts (x ∷ xs) e l h = eqb-true x.0 0 (and_parts _ _ h).0

pub target_below : (n : ℕ) (ps : List (ℕ × ℕ)) (k : ℕ) (p : ℕ × ℕ) → All (λ i. i < n) (map (λ q. q.1) ps)
    → k < length ps → p ≡ get_or ps k p → p.1 < n
target_below n [] k p h l is = absurd (omega arith)
target_below n (q ∷ qs) zero p h l is = let r : p ≡ q = is in
    subst (λ (z : ℕ × ℕ). z.1 < n) (sym r) (h 0 0 (omega arith))
target_below n (q ∷ qs) (suc k) p h l is =
    target_below n qs k p (λ i d m. h (suc i) d (omega (arith, m))) (omega (arith, l)) is
