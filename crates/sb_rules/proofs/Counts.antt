-- How many pieces hold a character, and how many of these are of targets that pass a test.
use Rattle.std.proofs.Common.{◌≡◌, ℕ, ◌+◌, ◌<◌, ◌≤◌, Bool, true, false, ◌&&◌, ◌||◌, nat_eq, nat_le, if◌then◌else◌, List, [], ◌∷◌, map, filter, refl, sym, ap, ap₂, ◌∙◌, arith}
use Rattle.std.specs.List.{list_all, sum_by}
use Rattle.std.proofs.lemmas.Bool.{and_parts, false≢true, true≢false}
use Rattle.std.proofs.lemmas.Bool.Decides.{nat_tests}
use Rattle.std.proofs.lemmas.List.Sums.{sum_by-cons, sum_by-append}
use Rattle.sb_word.specs.Words.{is_character}
use Rattle.sb_class.specs.Ranges.{Range, in_range, in_ranges, fits_from, rises_from}
use Rattle.sb_lang.specs.Regex.{Regex}
use Rattle.sb_lang.specs.Order.{regex_eq}
use Rattle.sb_lang.specs.Derivative.{nd}
use Rattle.sb_regex.specs.Numbered.{regex_at}
use Rattle.sb_rulebook.specs.Expansions.{Branch, leads_right}
use Rattle.sb_rules.specs.Pieces.{Piece, Ranged, pieces_to, pieces_in, are_canonical, AreRising, covers_from, holds_at, is_right_in}

abbrev pub one_if : Bool → ℕ
one_if b = if b then 1 else 0

abbrev pub is_counted : (ℕ → Bool) → ℕ → Piece → Bool
is_counted w c p = holds_at c p && w p.1.1

abbrev pub count : (ℕ → Bool) → ℕ → List Piece → ℕ
count w c ps = sum_by (λ p. one_if (is_counted w c p)) ps

abbrev pub any : ℕ → Bool
any n = true

abbrev pub held : ℕ → List Piece → ℕ
held c ps = count any c ps

count-cons : (w : ℕ → Bool) (c : ℕ) (p : Piece) (ps : List Piece)
    → count w c (p ∷ ps) ≡ one_if (is_counted w c p) + count w c ps
count-cons w c p ps = sum_by-cons (λ p. one_if (is_counted w c p)) p ps

-- Tests of numbers.

not-held-below : (c : ℕ) (p : Piece) → c < p.0 → is_counted any c p ≡ false
not-held-below c p l = step (nat_le p.0 c) refl
  where
    step : (b : Bool) → nat_le p.0 c ≡ b → ((b && nat_le c p.1.0) && true) ≡ false
    step true e = absurd (grind (arith, nat_tests))
    step false e = refl

not-held-above : (c : ℕ) (p : Piece) → p.1.0 < c → is_counted any c p ≡ false
not-held-above c p l = step (nat_le p.0 c) (nat_le c p.1.0) refl
  where
    step : (a b : Bool) → nat_le c p.1.0 ≡ b → ((a && b) && true) ≡ false
    step true true e = absurd (grind (arith, nat_tests))
    step true false e = refl
    step false b e = refl

pub is-le : (a b : ℕ) → a ≤ b → nat_le a b ≡ true
is-le a b l = grind (arith, nat_tests)

pub le-is : (a b : ℕ) → nat_le a b ≡ true → a ≤ b
le-is a b l = grind (arith, nat_tests)

eq-is : (a b : ℕ) → nat_eq a b ≡ true → a ≡ b
eq-is a b l = grind (arith, nat_tests)

is-eq : (a b : ℕ) → a ≡ b → nat_eq a b ≡ true
is-eq a b l = grind (arith, nat_tests)

held-within : (c : ℕ) (p : Piece) → p.0 ≤ c → c ≤ p.1.0 → is_counted any c p ≡ true
held-within c p l m = ap₂ (λ a b. (a && b) && true) (is-le p.0 c l) (is-le c p.1.0 m)

-- What covers holds each character once.

pub record IsFirst (n : ℕ) (p : Piece) : Type 0 where
  pub begins : p.0 ≡ n
  pub ordered : p.0 ≤ p.1.0
  pub character : p.1.0 ≤ 0x2ffff

pub first-of : (n : ℕ) (p : Piece) (b : Bool) → ((nat_eq p.0 n && (nat_le p.0 p.1.0 && is_character p.1.0)) && b) ≡ true
    → IsFirst n p
first-of n p b h =
    let q = and_parts (nat_eq p.0 n && (nat_le p.0 p.1.0 && is_character p.1.0)) b h in
    let s = and_parts (nat_eq p.0 n) (nat_le p.0 p.1.0 && is_character p.1.0) q.0 in
    let t = and_parts (nat_le p.0 p.1.0) (is_character p.1.0) s.1 in
    record { begins = eq-is p.0 n s.0; ordered = le-is p.0 p.1.0 t.0; character = le-is p.1.0 0x2ffff t.1 }

pub behind-first : (n : ℕ) (p : Piece) (b : Bool)
    → ((nat_eq p.0 n && (nat_le p.0 p.1.0 && is_character p.1.0)) && b) ≡ true → b ≡ true
behind-first n p b h = (and_parts (nat_eq p.0 n && (nat_le p.0 p.1.0 && is_character p.1.0)) b h).1

pub held-below : (n : ℕ) (ps : List Piece) (c : ℕ) → covers_from n ps ≡ true → c < n → held c ps ≡ 0
held-below n [] c h l = refl
held-below n (p ∷ ps) c h l =
    let f = first-of n p (covers_from (p.1.0 + 1) ps) h in
    let b = f.begins in
    let o = f.ordered in
    count-cons any c p ps
    ∙ ap₂ (λ a n. one_if a + n) (not-held-below c p (omega (arith, b, l)))
    (held-below (p.1.0 + 1) ps c (behind-first n p (covers_from (p.1.0 + 1) ps) h) (omega (arith, b, o, l)))

pub held-once : (n : ℕ) (ps : List Piece) (c : ℕ) → covers_from n ps ≡ true → n ≤ c → is_character c ≡ true
    → held c ps ≡ 1
held-once n [] c h l char = let e = eq-is n 0x30000 h in let m = le-is c 0x2ffff char in absurd (omega (arith, e, l, m))
held-once n (p ∷ ps) c h l char =
    count-cons any c p ps ∙ step (nat_le c p.1.0) refl (λ m. held-once (p.1.0 + 1) ps c rest m char)
  where
    f : IsFirst n p
    f = first-of n p (covers_from (p.1.0 + 1) ps) h

    rest : covers_from (p.1.0 + 1) ps ≡ true
    rest = behind-first n p (covers_from (p.1.0 + 1) ps) h

    step : (b : Bool) → nat_le c p.1.0 ≡ b → (p.1.0 + 1 ≤ c → held c ps ≡ 1)
        → one_if (is_counted any c p) + held c ps ≡ 1
    step true e later =
        let b = f.begins in
        let m = le-is c p.1.0 e in
        ap₂ (λ a n. one_if a + n) (held-within c p (omega (arith, b, l)) m)
        (held-below (p.1.0 + 1) ps c rest (omega (arith, m)))
    step false e later =
        let m : p.1.0 < c = grind (arith, nat_tests) in
        ap₂ (λ a n. one_if a + n) (not-held-above c p m) (later (omega (arith, m)))

-- What stands in order and holds each character once covers.

pub record IsWithin (p : Piece) : Type 0 where
  pub ordered : p.0 ≤ p.1.0
  pub character : p.1.0 ≤ 0x2ffff

abbrev pub AreWithin : List Piece → Type 0
AreWithin [] = Unit {0}
AreWithin (p ∷ ps) = IsWithin p × AreWithin ps

held-before : (n : ℕ) (ps : List Piece) (c : ℕ) → AreRising n ps → c < n → held c ps ≡ 0
held-before n [] c h l = refl
held-before n (p ∷ ps) c h l =
    let m = h.0 in
    count-cons any c p ps
    ∙ ap₂ (λ a n. one_if a + n) (not-held-below c p (omega (arith, m, l)))
    (held-before p.0 ps c h.1 (omega (arith, m, l)))

abbrev pub HoldOnce : ℕ → List Piece → Type 0
HoldOnce n ps = (c : ℕ) → n ≤ c → is_character c ≡ true → held c ps ≡ 1

rising-behind : (p : Piece) (ps : List Piece) → IsWithin p → AreWithin ps → AreRising p.0 ps
    → HoldOnce p.0 (p ∷ ps) → AreRising (p.1.0 + 1) ps
rising-behind p [] w ws rises once = tt
rising-behind p (q ∷ qs) w ws rises once = (step (nat_le (p.1.0 + 1) q.0) refl, rises.1)
  where
    step : (b : Bool) → nat_le (p.1.0 + 1) q.0 ≡ b → p.1.0 + 1 ≤ q.0
    step true e = le-is (p.1.0 + 1) q.0 e
    step false e =
        let low : q.0 ≤ p.1.0 = grind (arith, nat_tests) in
        let a = rises.0 in
        let o = ws.0.ordered in
        let ch = w.character in
        let one : held q.0 (p ∷ q ∷ qs) ≡ 1 = once q.0 a (is-le q.0 0x2ffff (omega (arith, low, ch))) in
        let both : held q.0 (p ∷ q ∷ qs) ≡ 1 + (1 + held q.0 qs) =
        count-cons any q.0 p (q ∷ qs)
        ∙ ap₂ (λ x n. one_if x + n) (held-within q.0 p a low)
        (count-cons any q.0 q qs ∙ ap (λ x. one_if x + held q.0 qs) (held-within q.0 q (omega arith) o))
        in
        absurd (omega (arith, one, both))

pub covers-all : (n : ℕ) (ps : List Piece) → AreRising n ps → AreWithin ps → n ≤ 0x30000 → HoldOnce n ps
    → covers_from n ps ≡ true
covers-all n [] rises ws l once = step (nat_eq n 0x30000) refl
  where
    step : (b : Bool) → nat_eq n 0x30000 ≡ b → b ≡ true
    step true e = refl
    step false e =
        let low : n ≤ 0x2ffff = grind (arith, nat_tests) in
        let no : 0 ≡ 1 = once n (omega arith) (is-le n 0x2ffff low) in
        absurd (omega (arith, no))
covers-all n (p ∷ ps) rises ws l once =
    ap₂ (λ a b. a && b)
    (ap₂ (λ a b. a && b) (is-eq p.0 n begins)
    (ap₂ (λ a b. a && b) (is-le p.0 p.1.0 ws.0.ordered) (is-le p.1.0 0x2ffff ws.0.character)))
    (covers-all (p.1.0 + 1) ps (rising-behind p ps ws.0 ws.1 rises.1 at-first) ws.1
    (let ch = ws.0.character in omega (arith, ch)) behind)
  where
    begins : p.0 ≡ n
    begins = step (nat_eq p.0 n) refl
      where
        step : (b : Bool) → nat_eq p.0 n ≡ b → p.0 ≡ n
        step true e = eq-is p.0 n e
        step false e =
            let a = rises.0 in
            let o = ws.0.ordered in
            let ch = ws.0.character in
            let less : n < p.0 = grind (arith, nat_tests) in
            let one : held n (p ∷ ps) ≡ 1 = once n (omega arith) (is-le n 0x2ffff (omega (arith, less, o, ch))) in
            let none : held n (p ∷ ps) ≡ 0 = held-before p.0 (p ∷ ps) n (omega arith, rises.1) less in
            absurd (omega (arith, one, none))

    at-first : HoldOnce p.0 (p ∷ ps)
    at-first c m char = let a = rises.0 in once c (omega (arith, a, m)) char

    behind : HoldOnce (p.1.0 + 1) ps
    behind c m char =
        let a = rises.0 in
        let o = ws.0.ordered in
        let one = once c (omega (arith, a, o, m)) char in
        let e = count-cons any c p ps
        ∙ ap (λ x. one_if x + held c ps) (not-held-above c p (omega (arith, m))) in
        omega (arith, one, e)

-- Which pieces lead rightly.

module _ (rs : List Regex) (r : Regex) (c : ℕ) where
  abbrev pub leads : ℕ → Bool
  leads id = regex_eq (nd r c) (regex_at rs id)

  one-right : (h l : Bool) → (if h then l else true) ≡ true → one_if (h && l) ≡ one_if (h && true)
  one-right true true e = refl
  one-right true false e = absurd (false≢true e)
  one-right false l e = refl

  pub all-right : (ps : List Piece) → list_all (is_right_in rs r c) ps ≡ true → count leads c ps ≡ held c ps
  all-right [] h = refl
  all-right (p ∷ ps) h =
      let q = and_parts (is_right_in rs r c p) (list_all (is_right_in rs r c) ps) h in
      count-cons leads c p ps
      ∙ ap₂ ◌+◌ (one-right (holds_at c p) (leads p.1.1) q.0) (all-right ps q.1)
      ∙ sym (count-cons any c p ps)

  at-most : (h l : Bool) → one_if (h && l) ≤ one_if (h && true)
  at-most true true = omega arith
  at-most true false = omega arith
  at-most false l = omega arith

  pub fewer : (ps : List Piece) → count leads c ps ≤ held c ps
  fewer [] = omega arith
  fewer (p ∷ ps) =
      let a = count-cons leads c p ps in
      let b = count-cons any c p ps in
      let m = at-most (holds_at c p) (leads p.1.1) in
      let n = fewer ps in
      omega (arith, a, b, m, n)

  one-wrong : (h l : Bool) → (if h then l else true) ≡ false → one_if (h && l) < one_if (h && true)
  one-wrong true true e = absurd (true≢false e)
  one-wrong true false e = omega arith
  one-wrong false l e = absurd (true≢false e)

  pub some-wrong : (ps : List Piece) → list_all (is_right_in rs r c) ps ≡ false → count leads c ps < held c ps
  some-wrong [] h = absurd (true≢false h)
  some-wrong (p ∷ ps) h =
      let a = count-cons leads c p ps in
      let b = count-cons any c p ps in
      step (is_right_in rs r c p) refl h (some-wrong ps) a b
    where
      step : (t : Bool) → is_right_in rs r c p ≡ t → (t && list_all (is_right_in rs r c) ps) ≡ false
          → (list_all (is_right_in rs r c) ps ≡ false → count leads c ps < held c ps)
          → count leads c (p ∷ ps) ≡ one_if (is_counted leads c p) + count leads c ps
          → count any c (p ∷ ps) ≡ one_if (is_counted any c p) + held c ps
          → count leads c (p ∷ ps) < held c (p ∷ ps)
      step true e h later a b =
          let m = at-most (holds_at c p) (leads p.1.1) in
          let n = later h in
          omega (arith, a, b, m, n)
      step false e h later a b =
          let m = one-wrong (holds_at c p) (leads p.1.1) e in
          let n = fewer ps in
          omega (arith, a, b, m, n)

-- The same by classes.

abbrev pub class_counted : (ℕ → Bool) → ℕ → Ranged → Bool
class_counted w c k = in_ranges k.0 c && w k.1

abbrev pub class_count : (ℕ → Bool) → ℕ → List Ranged → ℕ
class_count w c ks = sum_by (λ k. one_if (class_counted w c k)) ks

class-cons : (w : ℕ → Bool) (c : ℕ) (k : Ranged) (ks : List Ranged)
    → class_count w c (k ∷ ks) ≡ one_if (class_counted w c k) + class_count w c ks
class-cons w c k ks = sum_by-cons (λ k. one_if (class_counted w c k)) k ks

none-below : (n : ℕ) (rs : List Range) (c : ℕ) → rises_from n rs ≡ true → c < n → in_ranges rs c ≡ false
unfolding rises_from in_ranges in_range
none-below n [] c h l = refl
none-below n (r ∷ rs) c h l =
    let p = and_parts (fits_from n r) (rises_from (r.1 + 2) rs) h in
    let q = and_parts (nat_le n r.0) (nat_le r.0 r.1 && is_character r.1) p.0 in
    let s = and_parts (nat_le r.0 r.1) (is_character r.1) q.1 in
    let a = le-is n r.0 q.0 in
    let b = le-is r.0 r.1 s.0 in
    ap₂ ◌||◌ (step (nat_le r.0 c) refl (omega (arith, a, l))) (none-below (r.1 + 2) rs c p.1 (omega (arith, a, b, l)))
  where
    step : (t : Bool) → nat_le r.0 c ≡ t → c < r.0 → (t && nat_le c r.1) ≡ false
    step true e m = absurd (grind (arith, nat_tests))
    step false e m = refl

count-in-class : (w : ℕ → Bool) (c id n : ℕ) (rs : List Range) → rises_from n rs ≡ true
    → count w c (pieces_to id rs) ≡ one_if (in_ranges rs c && w id)
unfolding rises_from in_ranges in_range
count-in-class w c id n [] h = refl
count-in-class w c id n (r ∷ rs) h =
    let p = and_parts (fits_from n r) (rises_from (r.1 + 2) rs) h in
    count-cons w c (r.0, (r.1, id)) (pieces_to id rs)
    ∙ ap (λ x. one_if ((nat_le r.0 c && nat_le c r.1) && w id) + x) (count-in-class w c id (r.1 + 2) rs p.1)
    ∙ step (nat_le r.0 c) (nat_le c r.1) (in_ranges rs c) refl
    (λ l. none-below (r.1 + 2) rs c p.1 (omega (arith, l)))
  where
    at : (b t : Bool) → (b ≡ false) → one_if t + one_if (b && t) ≡ one_if t
    at true t e = absurd (true≢false e)
    at false true e = omega arith
    at false false e = omega arith

    step : (a b rest : Bool) → nat_le c r.1 ≡ b → (c ≤ r.1 → rest ≡ false)
        → one_if ((a && b) && w id) + one_if (rest && w id) ≡ one_if (((a && b) || rest) && w id)
    step true true rest e none = at rest (w id) (none (le-is c r.1 e))
    step true false rest e none = omega arith
    step false b rest e none = omega arith

pub count-by-classes : (w : ℕ → Bool) (c : ℕ) (ks : List Ranged) → are_canonical ks ≡ true
    → count w c (pieces_in ks) ≡ class_count w c ks
count-by-classes w c [] h = refl
count-by-classes w c (k ∷ ks) h =
    let p = and_parts (rises_from 0 k.0) (are_canonical ks) h in
    sum_by-append (λ p. one_if (is_counted w c p)) (pieces_to k.1 k.0) (pieces_in ks)
    ∙ ap₂ ◌+◌ (count-in-class w c k.1 0 k.0 p.0) (count-by-classes w c ks p.1)
    ∙ sym (class-cons w c k ks)

-- A character is in one class, which leads rightly, where both counts are 1.

abbrev pub branch_at : List Regex → Ranged → Branch
branch_at rs k = (k.0, regex_at rs k.1)

module _ (rs : List Regex) (r : Regex) (c : ℕ) where
  abbrev pub holders : List Ranged → List Branch
  holders ks = filter (λ b. in_ranges b.0 c) (map (branch_at rs) ks)

  class-fewer : (ks : List Ranged) → class_count (leads rs r c) c ks ≤ class_count any c ks
  class-fewer [] = omega arith
  class-fewer (k ∷ ks) =
      let a = class-cons (leads rs r c) c k ks in
      let b = class-cons any c k ks in
      let m = at-most rs r c (in_ranges k.0 c) (leads rs r c k.1) in
      let n = class-fewer ks in
      omega (arith, a, b, m, n)

  abbrev pub HoldersCount : List Branch → ℕ → Type 0
  HoldersCount [] n = n ≡ 0
  HoldersCount (b ∷ bs) n = 1 ≤ n

  holders-count : (ks : List Ranged) → HoldersCount (holders ks) (class_count any c ks)
  holders-count [] = refl
  holders-count (k ∷ ks) = step (in_ranges k.0 c) (class-cons any c k ks) (holders-count ks)
    where
      same : (bs : List Branch) (n m : ℕ) → m ≡ n → HoldersCount bs n → HoldersCount bs m
      same [] n m e h = e ∙ h
      same (b ∷ bs) n m e h = omega (arith, e, h)

      step : (b : Bool) → class_count any c (k ∷ ks) ≡ one_if (b && true) + class_count any c ks
          → HoldersCount (holders ks) (class_count any c ks)
          → HoldersCount (if b then branch_at rs k ∷ holders ks else holders ks) (class_count any c (k ∷ ks))
      step true e h = omega (arith, e)
      step false e h = same (holders ks) _ _ (e ∙ omega arith) h

  abbrev by_counts : ℕ → ℕ → Bool
  by_counts n m = nat_eq n 1 && nat_eq m 1

  one-holder : (k : Ranged) (bs : List Branch) (n m : ℕ) → HoldersCount bs n → m ≤ n
      → leads_right r c (branch_at rs k ∷ bs) ≡ by_counts (1 + n) (one_if (leads rs r c k.1) + m)
  one-holder k [] n m h l = step (leads rs r c k.1) (omega (arith, h, l))
    where
      step : (b : Bool) → m ≡ 0 → b ≡ (nat_eq (1 + n) 1 && nat_eq (one_if b + m) 1)
      step true e = sym (ap₂ ◌&&◌ (is-eq (1 + n) 1 (omega (arith, h))) (is-eq (1 + m) 1 (omega (arith, e))))
      step false e = sym (ap₂ ◌&&◌ (is-eq (1 + n) 1 (omega (arith, h))) (no e))
        where
          no : m ≡ 0 → nat_eq (0 + m) 1 ≡ false
          no e = grind (arith, nat_tests)
  one-holder k (b ∷ bs) n m h l = sym (ap (λ t. t && nat_eq (one_if (leads rs r c k.1) + m) 1) many)
    where
      many : nat_eq (1 + n) 1 ≡ false
      many = grind (arith, nat_tests)

  zero-plus : (n m : ℕ) → n ≡ 0 + m → n ≡ m
  zero-plus n m e = omega (arith, e)

  pub right-by-counts : (ks : List Ranged)
      → leads_right r c (holders ks) ≡ by_counts (class_count any c ks) (class_count (leads rs r c) c ks)
  right-by-counts [] = refl
  right-by-counts (k ∷ ks) =
      step (in_ranges k.0 c) (class-cons any c k ks) (class-cons (leads rs r c) c k ks) (right-by-counts ks)
    where
      step : (b : Bool) → class_count any c (k ∷ ks) ≡ one_if (b && true) + class_count any c ks
          → class_count (leads rs r c) c (k ∷ ks)
          ≡ one_if (b && leads rs r c k.1) + class_count (leads rs r c) c ks
          → leads_right r c (holders ks) ≡ by_counts (class_count any c ks) (class_count (leads rs r c) c ks)
          → leads_right r c (if b then branch_at rs k ∷ holders ks else holders ks)
          ≡ by_counts (class_count any c (k ∷ ks)) (class_count (leads rs r c) c (k ∷ ks))
      step true e f h =
          one-holder k (holders ks) (class_count any c ks) (class_count (leads rs r c) c ks) (holders-count ks)
          (class-fewer ks)
          ∙ sym (ap₂ by_counts e f)
      step false e f h = h ∙ sym (ap₂ by_counts (zero-plus _ _ e) (zero-plus _ _ f))
