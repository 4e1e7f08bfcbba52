-- The ranges of the targets are gathered, piece by piece.
use Rattle.std.proofs.Common.{◌≡◌, ◌≢◌, ℕ, zero, suc, ◌+◌, ◌-◌, ◌<◌, ◌≤◌, Bool, true, false, not, ◌&&◌, ◌||◌, ◌==◌, cond, List, [], ◌∷◌, ◌++◌, length, drop, get_or, set, map, refl, sym, ap, subst, ◌∙◌, arith, append_assoc, append-nil, length-drop}
use Rattle.std.specs.Prelude.{nat_le}
use Rattle.std.specs.List.{All, AllPairs, Contains, list_any, position_or_len}
use Rattle.std.proofs.lemmas.Bool.{and_parts, and_from, le-leb, leb-true, eqb-true, eq-eqb}
use Rattle.std.proofs.lemmas.Bool.Decides.{nat_tests}
use Rattle.std.proofs.lemmas.List.{drop_more, get_or-map, length-map}
use Rattle.std.proofs.lemmas.List.Kept.{AllPairs-cons}
use Rattle.sb_class.specs.Ranges.{Range, in_ranges, IsCanonical, IsLeast}
use Rattle.sb_deriv.specs.Pieces.{value_at, rises, IsIntervalMap}
use Rattle.sb_deriv.specs.Choices.{first_of, with_range}
use Rattle.sb_deriv.specs.Targets.{ClassTarget, AreTargets}
use Rattle.sb_deriv.proofs.PieceFacts.{rises_from_first, covers_rises}
use Rattle.sb_deriv.proofs.Ranging.{within_range, first_step, rises_at_start, Fits, fits}
use Rattle.sb_deriv.proofs.RangesTo.{ranges_to, ranges_to-nil, ranges_to-hit, ranges_to-miss, After, after, canonical_to, is_target}
use Rattle.sb_class.proofs.CallerLemmas.{character_below, in_ranges-below}

eq_other : (a b : ℕ) → a ≢ b → (a == b) ≡ false
eq_other a b h = grind (arith, nat_tests)

-- what is put where

pub with_range-new : (t : ℕ) (r : Range) (gs : List ClassTarget) → list_any (λ s. t == s) (map (λ g. g.1) gs) ≡ false
    → with_range t r gs ≡ gs ++ (r ∷ [], t) ∷ []
unfolding with_range
with_range-new t r [] h = refl
with_range-new t r (g ∷ gs) h = by (t == g.1) h (with_range-new t r gs)
  where
    by : (b : Bool) → (b || list_any (λ s. t == s) (map (λ g. g.1) gs)) ≡ false →
        (list_any (λ s. t == s) (map (λ g. g.1) gs) ≡ false → with_range t r gs ≡ gs ++ (r ∷ [], t) ∷ []) →
        cond b ((g.0 ++ r ∷ [], g.1) ∷ gs) (g ∷ with_range t r gs) ≡ g ∷ (gs ++ (r ∷ [], t) ∷ [])
    by true h rest = absurd (cc)
    by false h rest = ap (λ xs. g ∷ xs) (rest h)

pub with_range-old : (t : ℕ) (r : Range) (gs : List ClassTarget) (i : ℕ) (d : ClassTarget)
    → list_any (λ s. t == s) (map (λ g. g.1) gs) ≡ true → i ≡ position_or_len (λ s. t == s) (map (λ g. g.1) gs) →
    set gs i ((get_or gs i d).0 ++ r ∷ [], (get_or gs i d).1) ≡ with_range t r gs
unfolding with_range
with_range-old t r [] i d h e = absurd (cc)
with_range-old t r (g ∷ gs) i d h e =
    by (t == g.1) h e (λ p. with_range-old t r gs (position_or_len (λ s. t == s) (map (λ g. g.1) gs)) d p refl)
  where
    by : (b : Bool) → (b || list_any (λ s. t == s) (map (λ g. g.1) gs)) ≡ true
        → i ≡ cond (not b) (1 + position_or_len (λ s. t == s) (map (λ g. g.1) gs)) 0 →
        (list_any (λ s. t == s) (map (λ g. g.1) gs) ≡ true →
        set gs (position_or_len (λ s. t == s) (map (λ g. g.1) gs)) (
          (get_or gs (position_or_len (λ s. t == s) (map (λ g. g.1) gs)) d).0 ++ r ∷ [],
          (get_or gs (position_or_len (λ s. t == s) (map (λ g. g.1) gs)) d).1,
        ) ≡ with_range t r gs) →
        set (g ∷ gs) i ((get_or (g ∷ gs) i d).0 ++ r ∷ [], (get_or (g ∷ gs) i d).1)
        ≡ cond b ((g.0 ++ r ∷ [], g.1) ∷ gs) (g ∷ with_range t r gs)
    by true h e rest = subst
        (λ (j : ℕ). set (g ∷ gs) j ((get_or (g ∷ gs) j d).0 ++ r ∷ [], (get_or (g ∷ gs) j d).1)
        ≡ (g.0 ++ r ∷ [], g.1) ∷ gs) (sym e) refl
    by false h e rest = subst
        (λ (j : ℕ). set (g ∷ gs) j ((get_or (g ∷ gs) j d).0 ++ r ∷ [], (get_or (g ∷ gs) j d).1) ≡ g ∷ with_range t r gs)
        (let f : suc (position_or_len (λ s. t == s) (map (λ g. g.1) gs)) ≡ i = omega (arith, e) in f)
        (ap (λ xs. g ∷ xs) (rest h))

pub with_range-put : (t : ℕ) (r : Range) (gs : List ClassTarget) (i : ℕ) (v w : ClassTarget)
    → list_any (λ s. t == s) (map (λ g. g.1) gs) ≡ true → i ≡ position_or_len (λ s. t == s) (map (λ g. g.1) gs) →
    v ≡ get_or gs i v → w ≡ (v.0 ++ r ∷ [], v.1) → set gs i w ≡ with_range t r gs
with_range-put t r gs i v w h e is put =
    let f : ClassTarget → ClassTarget = λ x. (x.0 ++ r ∷ [], x.1) in
    ap (λ x. set gs i x) (put ∙ ap f is) ∙ with_range-old t r gs i v h e

targets_stay : (t : ℕ) (r : Range) (gs : List ClassTarget) → list_any (λ s. t == s) (map (λ g. g.1) gs) ≡ true
    → map (λ g. g.1) (with_range t r gs) ≡ map (λ g. g.1) gs
unfolding with_range
targets_stay t r [] h = absurd (cc)
targets_stay t r (g ∷ gs) h = by (t == g.1) h (targets_stay t r gs)
  where
    by : (b : Bool) → (b || list_any (λ s. t == s) (map (λ g. g.1) gs)) ≡ true →
        (list_any (λ s. t == s) (map (λ g. g.1) gs) ≡ true → map (λ g. g.1) (with_range t r gs) ≡ map (λ g. g.1) gs) →
        map (λ g. g.1) (cond b ((g.0 ++ r ∷ [], g.1) ∷ gs) (g ∷ with_range t r gs)) ≡ g.1 ∷ map (λ g. g.1) gs
    by true h rest = refl
    by false h rest = ap (λ xs. g.1 ∷ xs) (rest h)

pub keys_put : (t : ℕ) (r : Range) (ks ks' : List ℕ) (gs gs' : List ClassTarget) → ks ≡ map (λ g. g.1) gs
    → list_any (λ s. t == s) ks ≡ true →
    ks' ≡ cond (list_any (λ s. t == s) ks) ks (ks ++ t ∷ []) → gs' ≡ with_range t r gs → ks' ≡ map (λ g. g.1) gs'
keys_put t r ks ks' gs gs' is h keys put =
    keys ∙ ap (λ b. cond b ks (ks ++ t ∷ [])) h ∙ is
    ∙ sym (ap (map (λ (g : ClassTarget). g.1)) put ∙ targets_stay t r gs (ap (list_any (λ s. t == s)) (sym is) ∙ h))

-- the ranges of a target so far

unfoldable pub written : ℕ → List ClassTarget → List Range
written t [] = []
written t (g ∷ gs) = cond (t == g.1) g.0 (written t gs)

written-same : (t : ℕ) (r : Range) (gs : List ClassTarget) → written t (with_range t r gs) ≡ written t gs ++ r ∷ []
unfolding written with_range
written-same t r [] = ap (λ b. cond b (r ∷ []) []) (eq-eqb t t refl)
written-same t r (g ∷ gs) = by (t == g.1) refl (written-same t r gs)
  where
    by : (b : Bool) → (t == g.1) ≡ b → written t (with_range t r gs) ≡ written t gs ++ r ∷ []
        → written t (cond b ((g.0 ++ r ∷ [], g.1) ∷ gs) (g ∷ with_range t r gs)) ≡ cond b g.0 (written t gs) ++ r ∷ []
    by true e rest = ap (λ b. cond b (g.0 ++ r ∷ []) (written t gs)) e
    by false e rest = ap (λ b. cond b g.0 (written t (with_range t r gs))) e ∙ rest

written-other : (u t : ℕ) (r : Range) (gs : List ClassTarget) → (u == t) ≡ false
    → written u (with_range t r gs) ≡ written u gs
unfolding written with_range
written-other u t r [] h = ap (λ b. cond b (r ∷ []) []) h
written-other u t r (g ∷ gs) h = by (t == g.1) refl (written-other u t r gs h)
  where
    by : (b : Bool) → (t == g.1) ≡ b → written u (with_range t r gs) ≡ written u gs
        → written u (cond b ((g.0 ++ r ∷ [], g.1) ∷ gs) (g ∷ with_range t r gs)) ≡ cond (u == g.1) g.0 (written u gs)
    by true e rest =
        let f : (u == g.1) ≡ false = ap (λ k. u == k) (sym (eqb-true t g.1 e)) ∙ h in
        ap (λ b. cond b (g.0 ++ r ∷ []) (written u gs)) f ∙ sym (ap (λ b. cond b g.0 (written u gs)) f)
    by false e rest = ap (λ rs. cond (u == g.1) g.0 rs) rest

-- the ranges begin in ascending order

abbrev pub low : List Range → ℕ
low [] = 0
low (r ∷ rs) = r.0

unfoldable pub begins_from : ℕ → List Range → Bool
begins_from m [] = false
begins_from m (r ∷ rs) = nat_le m r.0

unfoldable pub begin : ℕ → List ClassTarget → ℕ → Bool
begin m [] e = nat_le m e
begin m (g ∷ gs) e = begins_from m g.0 && begin (suc (low g.0)) gs e

begins_push : (m : ℕ) (rs : List Range) (r : Range) → begins_from m rs ≡ true → begins_from m (rs ++ r ∷ []) ≡ true
unfolding begins_from
begins_push m [] r h = absurd (cc)
begins_push m (x ∷ xs) r h = h

low_push : (m : ℕ) (rs : List Range) (r : Range) → begins_from m rs ≡ true → low (rs ++ r ∷ []) ≡ low rs
unfolding begins_from
low_push m [] r h = absurd (cc)
low_push m (x ∷ xs) r h = refl

begin_later_end : (m : ℕ) (gs : List ClassTarget) (e f : ℕ) → e ≤ f → begin m gs e ≡ true → begin m gs f ≡ true
unfolding begin
begin_later_end m [] e f l h = le-leb m f (let a : m ≤ e = leb-true m e h in omega arith)
begin_later_end m (g ∷ gs) e f l h =
    let p = and_parts (begins_from m g.0) (begin (suc (low g.0)) gs e) h in
    and_from _ _ p.0 (begin_later_end (suc (low g.0)) gs e f l p.1)

begin_with : (m : ℕ) (gs : List ClassTarget) (t : ℕ) (r : Range) (e : ℕ) → begin m gs r.0 ≡ true → r.0 < e
    → begin m (with_range t r gs) e ≡ true
unfolding begin begins_from with_range
begin_with m [] t r e h l = and_from _ _ h (le-leb (suc r.0) e (omega arith))
begin_with m (g ∷ gs) t r e h l =
    let p = and_parts (begins_from m g.0) (begin (suc (low g.0)) gs r.0) h in
    by p (t == g.1) (begin_with (suc (low g.0)) gs t r e p.1 l)
  where
    by : (begins_from m g.0 ≡ true) × (begin (suc (low g.0)) gs r.0 ≡ true) → (b : Bool)
        → begin (suc (low g.0)) (with_range t r gs) e ≡ true →
        begin m (cond b ((g.0 ++ r ∷ [], g.1) ∷ gs) (g ∷ with_range t r gs)) e ≡ true
    by p true rest = and_from _ _ (begins_push m g.0 r p.0)
        (ap (λ n. begin (suc n) gs e) (low_push m g.0 r p.0)
        ∙ begin_later_end (suc (low g.0)) gs r.0 e (omega arith) p.1)
    by p false rest = and_from _ _ p.0 rest

-- how far the pieces are gathered
pub record Gathered (pieces rest : List (ℕ × ℕ)) (seen : List ℕ) (gs : List ClassTarget) : Type 0 where
  pub keys : seen ≡ map (λ g. g.1) gs
  pub once : AllPairs (λ t u. t ≢ u) seen
  pub whole : (t : ℕ) → written t gs ++ ranges_to t rest ≡ ranges_to t pieces
  pub starts : begin 0 gs (first_of 0x30000 rest) ≡ true
  pub to_come : rises (first_of 0x30000 rest) rest 0x30000 ≡ true

pub gathered_init : (pieces : List (ℕ × ℕ)) (seen : List ℕ) (gs : List ClassTarget) → IsIntervalMap pieces → seen ≡ []
    → gs ≡ [] → Gathered pieces pieces seen gs
unfolding written begin
gathered_init pieces seen gs h a b = rw (a, b) (record {
  keys = refl;
  once = λ i j d l k. absurd (omega arith);
  whole = λ t. refl;
  starts = le-leb 0 (first_of 0x30000 pieces) (omega arith);
  to_come = rises_from_first 0 (first_of 0x30000 pieces) pieces 0x30000 (covers_rises pieces 0x30000 h.whole)
      (omega arith);
})

next_piece : (pieces : List (ℕ × ℕ)) (k : ℕ) (p : ℕ × ℕ) → k < length pieces → p ≡ get_or pieces k p
    → drop k pieces ≡ p ∷ drop (k + 1) pieces
next_piece pieces k p l is = drop_more pieces k p l ∙ ap (λ y. y ∷ drop (k + 1) pieces) (sym is)

here : (pieces : List (ℕ × ℕ)) (k : ℕ) (p : ℕ × ℕ) (seen : List ℕ) (gs : List ClassTarget)
    → Gathered pieces (drop k pieces) seen gs → k < length pieces → p ≡ get_or pieces k p →
    Gathered pieces (p ∷ drop (k + 1) pieces) seen gs
here pieces k p seen gs h l is =
    subst (λ (xs : List (ℕ × ℕ)). Gathered pieces xs seen gs) (next_piece pieces k p l is) h

pub next_positive : (pieces : List (ℕ × ℕ)) (k : ℕ) (p : ℕ × ℕ) (seen : List ℕ) (gs : List ClassTarget)
    → Gathered pieces (drop k pieces) seen gs → k < length pieces → p ≡ get_or pieces k p →
    0 < first_of 0x30000 (drop (k + 1) pieces)
next_positive pieces k p seen gs h l is =
    let a : suc p.0 ≤ first_of 0x30000 (drop (k + 1) pieces) =
    (after p.0 p (drop (k + 1) pieces) (here pieces k p seen gs h l is).to_come).next in
    omega arith

pub gathered_step : (pieces : List (ℕ × ℕ)) (k : ℕ) (p : ℕ × ℕ) (m : ℕ) (seen seen' : List ℕ)
    (gs gs' : List ClassTarget) → Gathered pieces (drop k pieces) seen gs → k < length pieces → p ≡ get_or pieces k p →
    m ≡ first_of 0x30000 (drop (k + 1) pieces) - 1 → seen' ≡ map (λ g. g.1) gs' → AllPairs (λ t u. t ≢ u) seen'
    → gs' ≡ with_range p.1 (p.0, m) gs → Gathered pieces (drop (k + 1) pieces) seen' gs'
gathered_step pieces k p m seen seen' gs gs' h l is e keys once put = record {
  keys = keys;
  once = once;
  whole = λ t. ap (λ g. written t g ++ ranges_to t rest) (put ∙ ap (λ n. with_range p.1 (p.0, n) gs) e)
      ∙ by t (p.1 == t) refl ∙ at.whole t;
  starts = ap (λ g. begin 0 g (first_of 0x30000 rest)) put
      ∙ begin_with 0 gs p.1 (p.0, m) (first_of 0x30000 rest) at.starts (omega (arith, a.next));
  to_come = a.rest;
}
  where
    rest : List (ℕ × ℕ)
    rest = drop (k + 1) pieces

    at : Gathered pieces (p ∷ drop (k + 1) pieces) seen gs
    at = here pieces k p seen gs h l is

    a : After p.0 p (drop (k + 1) pieces)
    a = after p.0 p (drop (k + 1) pieces) at.to_come

    by : (t : ℕ) (u : Bool) → (p.1 == t) ≡ u
        → written t (with_range p.1 (p.0, first_of 0x30000 rest - 1) gs) ++ ranges_to t rest ≡ written t gs
        ++ ranges_to t (p ∷ rest)
    by t true u =
        let r : Range = (p.0, first_of 0x30000 rest - 1) in
        ap (λ rs. rs ++ ranges_to t rest)
        (subst (λ (s : ℕ). written t (with_range s r gs) ≡ written t gs ++ r ∷ []) (sym (eqb-true p.1 t u))
        (written-same t r gs))
        ∙ append_assoc (written t gs) (r ∷ []) (ranges_to t rest)
        ∙ ap (λ rs. written t gs ++ rs) (sym (ranges_to-hit t p rest u))
    by t false u =
        let f : (t == p.1) ≡ false = grind (arith, nat_tests, u) in
        ap (λ rs. rs ++ ranges_to t rest) (written-other t p.1 (p.0, first_of 0x30000 rest - 1) gs f)
        ∙ ap (λ rs. written t gs ++ rs) (sym (ranges_to-miss t p rest u))

-- all is gathered

written_at : (gs : List ClassTarget) → AllPairs (λ t u. t ≢ u) (map (λ g. g.1) gs) → (k : ℕ) (d : ClassTarget)
    → k < length gs → written (get_or gs k d).1 gs ≡ (get_or gs k d).0
unfolding written
written_at [] once k d l = absurd (omega arith)
written_at (g ∷ gs) once zero d l = ap (λ b. cond b g.0 (written g.1 gs)) (eq-eqb g.1 g.1 refl)
written_at (g ∷ gs) once (suc k) d l =
    let m : k < length gs = omega (arith, l) in
    let n : suc k < length (map (λ g. g.1) (g ∷ gs)) = omega (arith, length-map (g ∷ gs) (λ (g : ClassTarget). g.1), l)
    in
    let e : get_or (map (λ g. g.1) gs) k d.1 ≡ (get_or gs k d).1 = get_or-map (λ g. g.1) gs k d d.1 m in
    ap (λ b. cond b g.0 (written (get_or gs k d).1 gs))
    (eq_other (get_or gs k d).1 g.1 (λ f. once 0 (suc k) d.1 (omega arith) n (sym (e ∙ f))))
    ∙ written_at gs (λ i j x a b. once (suc i) (suc j) x (omega (arith, a)) (omega (arith, b))) k d m

written_has : (gs : List ClassTarget) (t c : ℕ) → in_ranges (written t gs) c ≡ true → Contains (map (λ g. g.1) gs) t
unfolding written in_ranges
written_has [] t c h = absurd (cc)
written_has (g ∷ gs) t c h = by (t == g.1) refl h (written_has gs t c)
  where
    by : (b : Bool) → (t == g.1) ≡ b → in_ranges (cond b g.0 (written t gs)) c ≡ true
        → (in_ranges (written t gs) c ≡ true → Contains (map (λ g. g.1) gs) t) →
        Contains (g.1 ∷ map (λ g. g.1) gs) t
    by true e h rest = (0, omega arith, sym (eqb-true t g.1 e))
    by false e h rest = let r = rest h in (suc r.0, omega (arith, r.1), r.2)

least_low : (m : ℕ) (rs : List Range) → IsCanonical rs → begins_from m rs ≡ true → IsLeast rs (low rs)
unfolding begins_from
least_low m [] h b = absurd (cc)
least_low m (r ∷ rs) h b =
    let f : Fits 0 r rs = fits 0 r rs h in record {
      member = first_step r rs r.0 true (within_range r r.0 (omega arith) f.order);
      below = λ c t. below c t (nat_le r.0 c) refl;
    }
  where
    below : (c : ℕ) → in_ranges (r ∷ rs) c ≡ true → (u : Bool) → nat_le r.0 c ≡ u → r.0 ≤ c
    below c t true u = leb-true r.0 c u
    below c t false u =
        let l : c < r.0 = grind (arith, nat_tests, u) in
        let z : in_ranges (r ∷ rs) c ≡ false = in_ranges-below r.0 (r ∷ rs) c (rises_at_start 0 r rs h) l in
        absurd (cc)

least_is : (rs : List Range) (m n : ℕ) → IsLeast rs m → IsLeast rs n → m ≡ n
least_is rs m n a b = omega (arith, a.below n b.member, b.below m a.member)

begins_tells : (m : ℕ) (rs : List Range) → begins_from m rs ≡ true → (m ≤ low rs) × (begins_from 0 rs ≡ true)
unfolding begins_from
begins_tells m [] h = absurd (cc)
begins_tells m (r ∷ rs) h = (leb-true m r.0 h, le-leb 0 r.0 (omega arith))

begin_at : (m : ℕ) (gs : List ClassTarget) (e : ℕ) → begin m gs e ≡ true → (k : ℕ) (d : ClassTarget) → k < length gs
    → (m ≤ low (get_or gs k d).0) × (begins_from 0 (get_or gs k d).0 ≡ true)
unfolding begin
begin_at m [] e h k d l = absurd (omega arith)
begin_at m (g ∷ gs) e h zero d l = begins_tells m g.0 (and_parts (begins_from m g.0) (begin (suc (low g.0)) gs e) h).0
begin_at m (g ∷ gs) e h (suc k) d l =
    let p = and_parts (begins_from m g.0) (begin (suc (low g.0)) gs e) h in
    let a : m ≤ low g.0 = (begins_tells m g.0 p.0).0 in
    let r = begin_at (suc (low g.0)) gs e p.1 k d (omega (arith, l)) in
    let b : suc (low g.0) ≤ low (get_or gs k d).0 = r.0 in (omega arith, r.1)

begin_pairs : (m : ℕ) (gs : List ClassTarget) (e : ℕ) → begin m gs e ≡ true → AllPairs (λ t u. low t.0 < low u.0) gs
unfolding begin
begin_pairs m [] e h = λ i j d l k. absurd (omega arith)
begin_pairs m (g ∷ gs) e h =
    let p = and_parts (begins_from m g.0) (begin (suc (low g.0)) gs e) h in
    AllPairs-cons (λ t u. low t.0 < low u.0) g gs
    (λ k d l. let a : suc (low g.0) ≤ low (get_or gs k d).0 = (begin_at (suc (low g.0)) gs e p.1 k d l).0 in
    omega arith)
    (begin_pairs (suc (low g.0)) gs e p.1)

-- what is gathered from the whole map
pub record Complete (pieces : List (ℕ × ℕ)) (gs : List ClassTarget) : Type 0 where
  pub ordered : IsIntervalMap pieces
  pub once : AllPairs (λ t u. t ≢ u) (map (λ g. g.1) gs)
  pub whole : (t : ℕ) → written t gs ≡ ranges_to t pieces
  pub starts : begin 0 gs 0x30000 ≡ true

pub complete : (pieces : List (ℕ × ℕ)) (k : ℕ) (seen : List ℕ) (gs : List ClassTarget) → IsIntervalMap pieces
    → Gathered pieces (drop k pieces) seen gs → length pieces ≤ k → Complete pieces gs
complete pieces k seen gs i h l = record {
  ordered = i;
  once = subst (λ (xs : List ℕ). AllPairs (λ t u. t ≢ u) xs) at.keys at.once;
  whole = λ t. sym (append-nil (written t gs)) ∙ sym (ap (λ rs. written t gs ++ rs) (ranges_to-nil t)) ∙ at.whole t;
  starts = at.starts;
}
  where
    none : (xs : List (ℕ × ℕ)) → length xs ≡ 0 → xs ≡ []
    none [] e = refl
    none (x ∷ xs) e = absurd (omega arith)

    at : Gathered pieces [] seen gs
    at = subst (λ (xs : List (ℕ × ℕ)). Gathered pieces xs seen gs)
        (none (drop k pieces) (omega (arith, length-drop k pieces))) h

ranges_at : (pieces : List (ℕ × ℕ)) (gs : List ClassTarget) → Complete pieces gs → (k : ℕ) (d : ClassTarget)
    → k < length gs → (get_or gs k d).0 ≡ ranges_to (get_or gs k d).1 pieces
ranges_at pieces gs h k d l = sym (written_at gs h.once k d l) ∙ h.whole (get_or gs k d).1

pub are_canonical : (pieces : List (ℕ × ℕ)) (gs : List ClassTarget) → Complete pieces gs → All (λ g. IsCanonical g.0) gs
are_canonical pieces gs h k d l =
    subst (λ (rs : List Range). IsCanonical rs) (sym (ranges_at pieces gs h k d l))
    (canonical_to (get_or gs k d).1 pieces h.ordered)

least_at : (pieces : List (ℕ × ℕ)) (gs : List ClassTarget) → Complete pieces gs → (k : ℕ) (d : ClassTarget)
    → k < length gs → IsLeast (get_or gs k d).0 (low (get_or gs k d).0)
least_at pieces gs h k d l =
    least_low 0 (get_or gs k d).0 (are_canonical pieces gs h k d l) (begin_at 0 gs 0x30000 h.starts k d l).1

pub are_targets : (pieces : List (ℕ × ℕ)) (gs : List ClassTarget) → Complete pieces gs → AreTargets pieces gs
are_targets pieces gs h = record {
  once = λ i j d l m e.
      let a : i < length gs = omega (arith, l, m) in
      h.once i j d.1 l (omega (arith, length-map gs (λ (g : ClassTarget). g.1), m)) (get_or-map (λ g. g.1) gs i d d.1 a
      ∙ e ∙ sym (get_or-map (λ g. g.1) gs j d d.1 m));
  classes = λ k d l c u. ap (λ rs. in_ranges rs c) (ranges_at pieces gs h k d l)
      ∙ is_target (get_or gs k d).1 pieces c h.ordered (character_below c u);
  all = λ c u. written_has gs (value_at pieces c) c
      (ap (λ rs. in_ranges rs c) (h.whole (value_at pieces c))
      ∙ is_target (value_at pieces c) pieces c h.ordered (character_below c u)
      ∙ eq-eqb (value_at pieces c) (value_at pieces c) refl);
  not_empty = λ k d l. (low (get_or gs k d).0, least_at pieces gs h k d l);
  ordered = λ i j d l m a b p q.
      let n : i < length gs = omega (arith, l, m) in
      let x : a ≡ low (get_or gs i d).0 =
      least_is (get_or gs i d).0 a (low (get_or gs i d).0) p (least_at pieces gs h i d n) in
      let y : b ≡ low (get_or gs j d).0 =
      least_is (get_or gs j d).0 b (low (get_or gs j d).0) q (least_at pieces gs h j d m) in
      let z : low (get_or gs i d).0 < low (get_or gs j d).0 = begin_pairs 0 gs 0x30000 h.starts i j d l m in
      omega (arith, x, y, z);
}
