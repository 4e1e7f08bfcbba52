-- Cuts, powers and iterations of languages.
use Rattle.std.proofs.Common.{◌≡◌, ℕ, zero, suc, ◌+◌, ◌<◌, ◌≤◌, Bool, true, false, ◌&&◌, ◌||◌, ◌==◌, ◌⊎◌, ◌↔◌, nat_le, List, [], ◌∷◌, ◌++◌, length, refl, sym, ap, ap₂, ◌∙◌, arith, inl, inr, ◌-◌, length-append, append_assoc, add-zero, add-suc}
use Rattle.std.proofs.Math.Bool.{and-true, or-false}
use Rattle.std.proofs.Math.Dec.{eqb-suc-zero}
use Rattle.std.proofs.lemmas.Bool.{and_parts, and_from, or_cases, or_left, or_right, false≢true, false_from_ne_true, le-leb, leb-true}
use Rattle.std.proofs.lemmas.Bool.Decides.{nat_tests}
use Rattle.std.specs.List.{list_all}
use Rattle.sb_lang.specs.LanguageLaws.{HasCut}
use Rattle.sb_lang.specs.Languages.{Language, empty_word, one_character, cut, power, some_up_to, iterate, repeat}
use Rattle.sb_lang.proofs.BoolFacts.{and-false_or, and-or_same}

-- tests that hold together are one
pub same_truth : (x y : Bool) → (x ≡ true → y ≡ true) → (y ≡ true → x ≡ true) → x ≡ y
same_truth true y to from = sym (to refl)
same_truth false true to from = from refl
same_truth false false to from = refl

pub HasCut-from_cut : (L M : Language) (w : List ℕ) → cut L M w ≡ true → HasCut L M w
unfolding cut
HasCut-from_cut L M [] h =
    let p = and_parts (L []) (M []) h in
    record { first = []; second = []; whole = refl; in_first = p.0; in_second = p.1 }
HasCut-from_cut L M (c ∷ w) h = elim (or_cases (L [] && M (c ∷ w)) (cut (λ u. L (c ∷ u)) M w) h) [
  | inl here ↦
      let p = and_parts (L []) (M (c ∷ w)) here in
      record { first = []; second = c ∷ w; whole = refl; in_first = p.0; in_second = p.1 }
  | inr later ↦
      let k = HasCut-from_cut (λ u. L (c ∷ u)) M w later in
      record {
        first = c ∷ k.first;
        second = k.second;
        whole = ap (λ u. c ∷ u) k.whole;
        in_first =
            k.in_first;
        in_second = k.in_second;
      }
]

pub cut-from_parts : (L M : Language) (x y : List ℕ) → L x ≡ true → M y ≡ true → cut L M (x ++ y) ≡ true
unfolding cut
cut-from_parts L M [] [] l m = and_from _ _ l m
cut-from_parts L M [] (c ∷ y) l m = or_left _ _ (and_from _ _ l m)
cut-from_parts L M (c ∷ x) y l m = or_right _ _ (cut-from_parts (λ u. L (c ∷ u)) M x y l m)

pub cut-from_HasCut : (L M : Language) (w : List ℕ) → HasCut L M w → cut L M w ≡ true
cut-from_HasCut L M w k = ap (cut L M) (sym k.whole) ∙ cut-from_parts L M k.first k.second k.in_first k.in_second

pub some_up_to-from : (n : ℕ) (test : ℕ → Bool) (k : ℕ) → k ≤ n → test k ≡ true → some_up_to n test ≡ true
unfolding some_up_to
some_up_to-from zero test k le h = let e : k ≡ 0 = omega arith in ap test (sym e) ∙ h
some_up_to-from (suc n) test k le h = elim (cases_top k n le) [
  | inl e ↦ or_left _ _ (ap test (sym e) ∙ h)
  | inr lower ↦ or_right _ _ (some_up_to-from n test k lower h)
]
  where
    cases_top : (k n : ℕ) → k ≤ suc n → (k ≡ suc n) ⊎ (k ≤ n)
    cases_top k n le = grind arith

pub some_up_to-gives : (n : ℕ) (test : ℕ → Bool) → some_up_to n test ≡ true → (k : ℕ) × (k ≤ n) × (test k ≡ true)
unfolding some_up_to
some_up_to-gives zero test h = (0, omega arith, h)
some_up_to-gives (suc n) test h = elim (or_cases (test (suc n)) (some_up_to n test) h) [
  | inl here ↦ (suc n, omega arith, here)
  | inr later ↦ let r = some_up_to-gives n test later in (r.0, omega (arith, r.1), r.2)
]

-- Cuts of equal languages are equal, and so on.

pub cut-same : (L L' M M' : Language) (w : List ℕ) → ((u : List ℕ) → L u ≡ L' u) → ((u : List ℕ) → M u ≡ M' u)
    → cut L M w ≡ cut L' M' w
unfolding cut
cut-same L L' M M' [] l m = ap₂ ◌&&◌ (l []) (m [])
cut-same L L' M M' (c ∷ w) l m =
    ap₂ ◌||◌ (ap₂ ◌&&◌ (l []) (m (c ∷ w))) (cut-same (λ u. L (c ∷ u)) (λ u. L' (c ∷ u)) M M' w (λ u. l (c ∷ u)) m)

pub some_up_to-same : (n : ℕ) (p q : ℕ → Bool) → ((k : ℕ) → p k ≡ q k) → some_up_to n p ≡ some_up_to n q
unfolding some_up_to
some_up_to-same zero p q e = e zero
some_up_to-same (suc n) p q e = ap₂ ◌||◌ (e (suc n)) (some_up_to-same n p q e)

-- The empty word.

pub power-empty : (L : Language) (n : ℕ) → power L n [] ≡ ((n == 0) || L [])
unfolding power cut
power-empty L zero = refl
power-empty L (suc n) =
    ap (λ b. L [] && b) (power-empty L n) ∙ and-or_same (n == 0) (L []) ∙ ap (λ b. b || L []) (sym (eqb-suc-zero n))

some_between : (n m : ℕ) (b : Bool)
    → some_up_to m (λ k. nat_le n k && ((k == 0) || b)) ≡ (nat_le n m && ((n == 0) || b))
some_between n m true = same_truth _ _
    (λ h. let r = some_up_to-gives m _ h in let p = and_parts (nat_le n r.0) _ r.2 in
    grind (arith, nat_tests, p.0, r.1))
    (λ h. let p = and_parts (nat_le n m) _ h in some_up_to-from m _ m (omega arith) (grind (arith, nat_tests, p.0)))
some_between n m false = same_truth _ _
    (λ h. let r = some_up_to-gives m _ h in let p = and_parts (nat_le n r.0) _ r.2 in
    grind (arith, nat_tests, p.0, p.1, r.1))
    (λ h. let p = and_parts (nat_le n m) _ h in some_up_to-from m _ 0 (omega arith) (grind (arith, nat_tests, p.1)))

pub repeat-empty : (L : Language) (n m : ℕ) → repeat L n m [] ≡ (nat_le n m && ((n == 0) || L []))
unfolding repeat
repeat-empty L n m =
    some_up_to-same m _ _ (λ k. ap (λ b. nat_le n k && b) (power-empty L k)) ∙ some_between n m (L [])

pub iterate-empty : (L : Language) → iterate L [] ≡ true
unfolding iterate power some_up_to
iterate-empty L = refl

-- A word that begins with a character.

cut_both_ways : (L M : Language) (c : ℕ) (w : List ℕ)
    → cut L M (c ∷ w) ≡ ((L [] && M (c ∷ w)) || cut (λ u. L (c ∷ u)) M w)
unfolding cut
cut_both_ways L M c w = refl

-- an empty first part adds nothing to a power
pub power-first : (L : Language) (n : ℕ) (w : List ℕ) → L [] ≡ true → power L n w ≡ true → power L (suc n) w ≡ true
unfolding power
power-first L n w e h = cut-from_parts L (power L n) [] w e h

pub power-after : (L : Language) (n c : ℕ) (w : List ℕ) → power L (suc n) (c ∷ w) ≡ cut (λ u. L (c ∷ u)) (power L n) w
unfolding power
power-after L zero c w = cut_both_ways L (power L zero) c w ∙ none_here (L []) _
  where
    none_here : (x y : Bool) → ((x && false) || y) ≡ y
    none_here true y = refl
    none_here false y = refl
power-after L (suc n) c w = cut_both_ways L (power L (suc n)) c w ∙ same_truth _ _
    (λ h. elim (or_cases (L [] && power L (suc n) (c ∷ w)) _ h) [
      | inl here ↦
          let p = and_parts (L []) (power L (suc n) (c ∷ w)) here in
          let k = HasCut-from_cut (λ u. L (c ∷ u)) (power L n) w (sym (power-after L n c w) ∙ p.1) in
          ap (cut (λ u. L (c ∷ u)) (power L (suc n))) (sym k.whole)
          ∙ cut-from_parts (λ u. L (c ∷ u)) (power L (suc n)) k.first k.second k.in_first
          (power-first L n k.second p.0 k.in_second)
      | inr later ↦ later
    ])
    (λ h. or_right (L [] && power L (suc n) (c ∷ w)) _ h)

power-zero : (L : Language) (c : ℕ) (w : List ℕ) → power L zero (c ∷ w) ≡ false
unfolding power
power-zero L c w = refl

length-cons : (c : ℕ) (w : List ℕ) → length (c ∷ w) ≡ suc (length w)
length-cons c w = refl

length-of_cut : (x y w : List ℕ) → x ++ y ≡ w → length y ≤ length w
length-of_cut x y w e = omega (arith, length-append x y, ap length e)

iterate-gives : (L : Language) (w : List ℕ) → iterate L w ≡ true → (n : ℕ) × (n ≤ length w) × (power L n w ≡ true)
unfolding iterate
iterate-gives L w h = some_up_to-gives (length w) _ h

iterate-from : (L : Language) (n : ℕ) (w : List ℕ) → n ≤ length w → power L n w ≡ true → iterate L w ≡ true
unfolding iterate
iterate-from L n w le h = some_up_to-from (length w) _ n le h

iterate-from_cut : (L : Language) (c : ℕ) (w : List ℕ) → HasCut (λ u. L (c ∷ u)) (iterate L) w
    → iterate L (c ∷ w) ≡ true
iterate-from_cut L c w k =
    let r = iterate-gives L k.second k.in_second in
    iterate-from L (suc r.0) (c ∷ w) (omega (arith, r.1, length-cons c w, length-of_cut k.first k.second w k.whole))
    (power-after L r.0 c w
    ∙ cut-from_HasCut (λ u. L (c ∷ u)) (power L r.0) w
    (record { first = k.first; second = k.second; whole = k.whole; in_first = k.in_first; in_second = r.2 }))

-- However many words, no more than the word is long are needed.
pub iterate-from_power : (L : Language) (k n : ℕ) (w : List ℕ) → length w ≤ k → power L n w ≡ true → iterate L w ≡ true
iterate-from_power L k n [] short h = iterate-empty L
iterate-from_power L k zero (c ∷ w) short h = absurd (false≢true (sym (power-zero L c w) ∙ h))
iterate-from_power L zero (suc n) (c ∷ w) short h = absurd (omega (arith, length-cons c w))
iterate-from_power L (suc k) (suc n) (c ∷ w) short h =
    let p = HasCut-from_cut (λ u. L (c ∷ u)) (power L n) w (sym (power-after L n c w) ∙ h) in
    iterate-from_cut L c w (record {
      first = p.first;
      second = p.second;
      whole = p.whole;
      in_first = p.in_first;
      in_second = iterate-from_power L k n p.second
          (omega (arith, length-cons c w, length-of_cut p.first p.second w p.whole)) p.in_second;
    })

pub iterate-power : (L : Language) (n : ℕ) (w : List ℕ) → power L n w ≡ true → iterate L w ≡ true
iterate-power L n w h = iterate-from_power L (length w) n w (omega arith) h

-- a cut stays where its parts' languages grow
pub HasCut-grows : (L M M' : Language) (w : List ℕ) → ((u : List ℕ) → M u ≡ true → M' u ≡ true) → HasCut L M w
    → HasCut L M' w
HasCut-grows L M M' w m k =
    record {
      first = k.first;
      second = k.second;
      whole = k.whole;
      in_first = k.in_first;
      in_second =
          m k.second k.in_second;
    }

pub iterate-after : (L : Language) (c : ℕ) (w : List ℕ) → iterate L (c ∷ w) ≡ cut (λ u. L (c ∷ u)) (iterate L) w
iterate-after L c w = same_truth _ _
    (λ h. let r = iterate-gives L (c ∷ w) h in after r.0 r.2)
    (λ h. iterate-from_cut L c w (HasCut-from_cut (λ u. L (c ∷ u)) (iterate L) w h))
  where
    after : (n : ℕ) → power L n (c ∷ w) ≡ true → cut (λ u. L (c ∷ u)) (iterate L) w ≡ true
    after zero h = absurd (false≢true (sym (power-zero L c w) ∙ h))
    after (suc n) h =
        cut-from_HasCut (λ u. L (c ∷ u)) (iterate L) w
        (HasCut-grows (λ u. L (c ∷ u)) (power L n) (iterate L) w (λ u. iterate-power L n u)
        (HasCut-from_cut (λ u. L (c ∷ u)) (power L n) w (sym (power-after L n c w) ∙ h)))

pub repeat-gives : (L : Language) (n m : ℕ) (w : List ℕ) → repeat L n m w ≡ true
    → (k : ℕ) × (n ≤ k) × (k ≤ m) × (power L k w ≡ true)
unfolding repeat
repeat-gives L n m w h =
    let r = some_up_to-gives m _ h in
    let p = and_parts (nat_le n r.0) _ r.2 in
    (r.0, leb-true n r.0 p.0, r.1, p.1)

pub repeat-from : (L : Language) (n m : ℕ) (w : List ℕ) (k : ℕ) → n ≤ k → k ≤ m → power L k w ≡ true
    → repeat L n m w ≡ true
unfolding repeat
repeat-from L n m w k low high h = some_up_to-from m _ k high (and_from _ _ (le-leb n k low) h)

pub repeat-after : (L : Language) (n m c : ℕ) (w : List ℕ)
    → repeat L n (suc m) (c ∷ w) ≡ cut (λ u. L (c ∷ u)) (repeat L (n - 1) m) w
repeat-after L n m c w = same_truth _ _
    (λ h. let r = repeat-gives L n (suc m) (c ∷ w) h in after r.0 r.1 r.2 r.3)
    (λ h.
    let k = HasCut-from_cut (λ u. L (c ∷ u)) (repeat L (n - 1) m) w h in
    let r = repeat-gives L (n - 1) m k.second k.in_second in
    repeat-from L n (suc m) (c ∷ w) (suc r.0) (omega (arith, r.1)) (omega (arith, r.2))
    (power-after L r.0 c w
    ∙ cut-from_HasCut (λ u. L (c ∷ u)) (power L r.0) w
    (record { first = k.first; second = k.second; whole = k.whole; in_first = k.in_first; in_second = r.3 })))
  where
    after : (k : ℕ) → n ≤ k → k ≤ suc m → power L k (c ∷ w) ≡ true → cut (λ u. L (c ∷ u)) (repeat L (n - 1) m) w ≡ true
    after zero low high h = absurd (false≢true (sym (power-zero L c w) ∙ h))
    after (suc k) low high h =
        cut-from_HasCut (λ u. L (c ∷ u)) (repeat L (n - 1) m) w
        (HasCut-grows (λ u. L (c ∷ u)) (power L k) (repeat L (n - 1) m) w
        (λ u g. repeat-from L (n - 1) m u k (omega (arith, low)) (omega (arith, high)) g)
        (HasCut-from_cut (λ u. L (c ∷ u)) (power L k) w (sym (power-after L k c w) ∙ h)))

-- A repetition with its bounds out of order, and of no times.

pub repeat-none : (L : Language) (n m : ℕ) (w : List ℕ) → m < n → repeat L n m w ≡ false
repeat-none L n m w lt = false_from_ne_true _ (λ h. let r = repeat-gives L n m w h in omega (arith, r.1, r.2))

pub repeat-zero : (L : Language) (w : List ℕ) → repeat L 0 0 w ≡ empty_word w
unfolding repeat some_up_to power
repeat-zero L w = refl

-- what some times give at one number of times
pub repeat-one : (L : Language) (w : List ℕ) → repeat L 1 1 w ≡ power L 1 w
repeat-one L w = same_truth _ _
    (λ h. let r = repeat-gives L 1 1 w h in let e : r.0 ≡ 1 = omega (arith, r.1, r.2) in
    ap (λ k. power L k w) (sym e) ∙ r.3)
    (λ h. repeat-from L 1 1 w 1 (omega arith) (omega arith) h)

-- Units and grouping of cuts.

pub cut-left_none : (L M : Language) (w : List ℕ) → ((u : List ℕ) → L u ≡ false) → cut L M w ≡ false
unfolding cut
cut-left_none L M [] none_there = ap (λ b. b && M []) (none_there [])
cut-left_none L M (c ∷ w) none_there =
    ap₂ (λ a b. (a && M (c ∷ w)) || b) (none_there []) (cut-left_none (λ u. L (c ∷ u)) M w (λ u. none_there (c ∷ u)))

pub cut-right_none : (L M : Language) (w : List ℕ) → ((u : List ℕ) → M u ≡ false) → cut L M w ≡ false
cut-right_none L M w none_there = false_from_ne_true _ (λ h.
    let k = HasCut-from_cut L M w h in
    false≢true (sym (none_there k.second) ∙ k.in_second))

pub cut-left_empty : (M : Language) (w : List ℕ) → cut empty_word M w ≡ M w
unfolding cut
cut-left_empty M [] = refl
cut-left_empty M (c ∷ w) =
    ap (λ b. M (c ∷ w) || b) (cut-left_none (λ u. empty_word (c ∷ u)) M w (λ u. refl)) ∙ or-false (M (c ∷ w))

pub cut-right_empty : (L : Language) (w : List ℕ) → cut L empty_word w ≡ L w
unfolding cut
cut-right_empty L [] = and-true (L [])
cut-right_empty L (c ∷ w) = and-false_or (L []) _ ∙ cut-right_empty (λ u. L (c ∷ u)) w

pub cut-cut : (L M N : Language) (w : List ℕ) → cut (cut L M) N w ≡ cut L (cut M N) w
cut-cut L M N w = same_truth _ _
    (λ h.
    let p = HasCut-from_cut (cut L M) N w h in
    let q = HasCut-from_cut L M p.first p.in_first in
    cut-from_HasCut L (cut M N) w (record {
      first = q.first;
      second = q.second ++ p.second;
      whole = sym (append_assoc q.first q.second p.second) ∙ ap (λ u. u ++ p.second) q.whole ∙ p.whole;
      in_first = q.in_first;
      in_second = cut-from_parts M N q.second p.second q.in_second p.in_second;
    }))
    (λ h.
    let p = HasCut-from_cut L (cut M N) w h in
    let q = HasCut-from_cut M N p.second p.in_second in
    cut-from_HasCut (cut L M) N w (record {
      first = p.first ++ q.first;
      second = q.second;
      whole = append_assoc p.first q.first q.second ∙ ap (λ u. p.first ++ u) q.whole ∙ p.whole;
      in_first = cut-from_parts L M p.first q.first p.in_first q.in_first;
      in_second = q.in_second;
    }))

-- Iterations.

pub power-once : (L : Language) (w : List ℕ) → power L 1 w ≡ L w
unfolding power
power-once L w = cut-right_empty L w

pub power-append : (L : Language) (n m : ℕ) (x y : List ℕ) → power L n x ≡ true → power L m y ≡ true
    → power L (m + n) (x ++ y) ≡ true
unfolding power
power-append L zero m [] y h g = ap (λ k. power L k y) (add-zero m) ∙ g
power-append L zero m (c ∷ x) y h g = absurd (false≢true h)
power-append L (suc n) m x y h g =
    let k = HasCut-from_cut L (power L n) x h in
    ap (λ j. power L j (x ++ y)) (add-suc m n)
    ∙ ap (λ u. power L (suc (m + n)) (u ++ y)) (sym k.whole)
    ∙ ap (λ u. power L (suc (m + n)) u) (append_assoc k.first k.second y)
    ∙ cut-from_parts L (power L (m + n)) k.first (k.second ++ y) k.in_first
    (power-append L n m k.second y k.in_second g)

pub iterate-append : (L : Language) (x y : List ℕ) → iterate L x ≡ true → iterate L y ≡ true → iterate L (x ++ y) ≡ true
iterate-append L x y h g =
    let p = iterate-gives L x h in
    let q = iterate-gives L y g in
    iterate-power L (q.0 + p.0) (x ++ y) (power-append L p.0 q.0 x y p.2 q.2)

power-iterate : (L : Language) (n : ℕ) (w : List ℕ) → power (iterate L) n w ≡ true → iterate L w ≡ true
unfolding power
power-iterate L zero [] h = iterate-empty L
power-iterate L zero (c ∷ w) h = absurd (false≢true h)
power-iterate L (suc n) w h =
    let k = HasCut-from_cut (iterate L) (power (iterate L) n) w h in
    ap (iterate L) (sym k.whole) ∙ iterate-append L k.first k.second k.in_first (power-iterate L n k.second k.in_second)

pub iterate-once : (L : Language) (w : List ℕ) → L w ≡ true → iterate L w ≡ true
iterate-once L w h = iterate-power L 1 w (power-once L w ∙ h)

pub iterate-iterate : (L : Language) (w : List ℕ) → iterate (iterate L) w ≡ iterate L w
iterate-iterate L w = same_truth _ _
    (λ h. let r = iterate-gives (iterate L) w h in power-iterate L r.0 w r.2)
    (λ h. iterate-once (iterate L) w h)

-- no word but the empty one
pub iterate-nothing : (L : Language) (w : List ℕ) → ((c : ℕ) (u : List ℕ) → L (c ∷ u) ≡ false)
    → iterate L w ≡ empty_word w
iterate-nothing L [] no_more_there = iterate-empty L
iterate-nothing L (c ∷ w) no_more_there =
    iterate-after L c w ∙ cut-left_none (λ u. L (c ∷ u)) (iterate L) w (λ u. no_more_there c u)

-- Repetitions of the empty word, and of nothing.

pub power-empty_word : (L : Language) (n : ℕ) (w : List ℕ) → ((u : List ℕ) → L u ≡ empty_word u)
    → power L n w ≡ empty_word w
unfolding power
power-empty_word L zero w same = refl
power-empty_word L (suc n) w same =
    cut-same L empty_word (power L n) empty_word w same (λ u. power-empty_word L n u same) ∙ cut-left_empty empty_word w

pub repeat-empty_word : (L : Language) (n m : ℕ) (w : List ℕ) → n ≤ m → ((u : List ℕ) → L u ≡ empty_word u)
    → repeat L n m w ≡ empty_word w
repeat-empty_word L n m w le same = same_truth _ _
    (λ h. let r = repeat-gives L n m w h in sym (power-empty_word L r.0 w same) ∙ r.3)
    (λ h. repeat-from L n m w n (omega arith) le (power-empty_word L n w same ∙ h))

power-nothing : (L : Language) (n : ℕ) (w : List ℕ) → ((u : List ℕ) → L u ≡ false) → power L (suc n) w ≡ false
unfolding power
power-nothing L n w none_there = cut-left_none L (power L n) w none_there

pub repeat-nothing : (L : Language) (m : ℕ) (w : List ℕ) → ((u : List ℕ) → L u ≡ false) → repeat L 0 m w ≡ empty_word w
unfolding power
repeat-nothing L m w none_there = same_truth _ _
    (λ h. let r = repeat-gives L 0 m w h in only r.0 r.3)
    (λ h. repeat-from L 0 m w 0 (omega arith) (omega arith) h)
  where
    only : (k : ℕ) → power L k w ≡ true → empty_word w ≡ true
    only zero h = h
    only (suc k) h = absurd (false≢true (sym (power-nothing L k w none_there) ∙ h))

pub repeat-nothing_often : (L : Language) (n m : ℕ) (w : List ℕ) → 0 < n → ((u : List ℕ) → L u ≡ false)
    → repeat L n m w ≡ false
repeat-nothing_often L n m w some none_there =
    false_from_ne_true _ (λ h. let r = repeat-gives L n m w h in only r.0 (omega (arith, r.1)) r.3)
  where
    only : (k : ℕ) → 0 < k → power L k w ≡ true → ⊥
    only zero lt h = omega arith
    only (suc k) lt h = false≢true (sym (power-nothing L k w none_there) ∙ h)

-- the words of characters of a test
pub iterate-characters : (test : ℕ → Bool) (w : List ℕ) → list_all test w ≡ true → iterate (one_character test) w ≡ true
iterate-characters test [] h = iterate-empty (one_character test)
iterate-characters test (c ∷ w) h =
    let p = and_parts (test c) (list_all test w) h in
    iterate-after (one_character test) c w
    ∙ cut-from_parts (λ u. one_character test (c ∷ u)) (iterate (one_character test)) [] w p.0
    (iterate-characters test w p.1)

pub repeat-never : (L : Language) (n c : ℕ) (w : List ℕ) → repeat L n 0 (c ∷ w) ≡ false
repeat-never L n c w = false_from_ne_true _ (λ h.
    let r = repeat-gives L n 0 (c ∷ w) h in
    let e : r.0 ≡ 0 = omega (arith, r.2) in
    false≢true (sym (power-zero L c w) ∙ ap (λ k. power L k (c ∷ w)) (sym e) ∙ r.3))

pub repeat-exactly : (L : Language) (n : ℕ) (w : List ℕ) → repeat L n n w ≡ power L n w
repeat-exactly L n w = same_truth _ _
    (λ h. let r = repeat-gives L n n w h in let e : r.0 ≡ n = omega (arith, r.1, r.2) in
    ap (λ k. power L k w) (sym e) ∙ r.3)
    (λ h. repeat-from L n n w n (omega arith) (omega arith) h)

-- The laws.

pub cut_is_some_cut : (L M : Language) (w : List ℕ) → (cut L M w ≡ true) ↔ HasCut L M w
cut_is_some_cut L M w = (λ h. HasCut-from_cut L M w h, λ k. cut-from_HasCut L M w k)

pub iteration_is_some_power : (L : Language) (w : List ℕ) → (iterate L w ≡ true) ↔ ((n : ℕ) × (power L n w ≡ true))
iteration_is_some_power L w = (
  λ h. let r = iterate-gives L w h in (r.0, r.2),
  λ p. iterate-power L p.0 w p.1,
)

pub repetition_is_some_power : (L : Language) (n m : ℕ) (w : List ℕ)
    → (repeat L n m w ≡ true) ↔ ((k : ℕ) × (n ≤ k) × (k ≤ m) × (power L k w ≡ true))
repetition_is_some_power L n m w = (λ h. repeat-gives L n m w h, λ p. repeat-from L n m w p.0 p.1 p.2 p.3)
