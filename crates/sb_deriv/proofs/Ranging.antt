-- The pieces of a set.
use Rattle.std.proofs.Common.{◌≡◌, ℕ, ◌+◌, ◌<◌, ◌≤◌, Bool, true, false, ◌||◌, cond, List, [], ◌∷◌, length, drop, get_or, refl, sym, ap, subst, ◌∙◌, arith, length-drop}
use Rattle.std.specs.Prelude.{nat_le}
use Rattle.std.specs.List.{All}
use Rattle.std.proofs.lemmas.Bool.{leb-true}
use Rattle.std.proofs.lemmas.Bool.Decides.{nat_tests}
use Rattle.std.proofs.lemmas.List.{drop_more}
use Rattle.std.proofs.lemmas.List.Elements.{All-nil}
use Rattle.sb_class.specs.Ranges.{Range, in_range, in_ranges, rises_from, IsCanonical}
use Rattle.sb_deriv.specs.Pieces.{value_at, covers, are_merged, targets_of}
use Rattle.sb_class.proofs.CallerLemmas.{in_range_tells, in_ranges-below, rises_from-join, rises_from-parts, rises_from-weaker}

pub record Ranging (R rest : List Range) (out : List (ℕ × ℕ)) (e within outside : ℕ) : Type 0 where
  pub whole : covers out e ≡ true
  pub merged : are_merged out ≡ true
  pub targets : (n : ℕ) → within < n → outside < n → All (λ i. i < n) (targets_of out)
  pub below : (c : ℕ) → c < e → value_at out c ≡ cond (in_ranges R c) within outside
  pub above : (c : ℕ) → e ≤ c → in_ranges R c ≡ in_ranges rest c
  pub rises : rises_from e rest ≡ true
  pub bound : e ≤ 0x30000

pub ranging_init : (R : List Range) (out : List (ℕ × ℕ)) (within outside : ℕ) → IsCanonical R → out ≡ []
    → Ranging R R out 0 within outside
unfolding covers are_merged
ranging_init R out within outside h o =
    rw o (record {
      whole = refl;
      merged = refl;
      targets = λ n a b. All-nil (λ i. i < n);
      below = λ c l. absurd (omega arith);
      above = λ c l. refl;
      rises = h;
      bound = omega arith;
    })

-- what fits from a number on
pub record Fits (n : ℕ) (r : Range) (rest : List Range) : Type 0 where
  pub start : n ≤ r.0
  pub order : r.0 ≤ r.1
  pub character : r.1 ≤ 0x2ffff
  pub rest_rises : rises_from (r.1 + 2) rest ≡ true

pub fits : (n : ℕ) (r : Range) (rest : List Range) → rises_from n (r ∷ rest) ≡ true → Fits n r rest
fits n r rest h =
    let p = rises_from-parts n r rest h in record { start = p.0; order = p.1; character = p.2; rest_rises = p.3 }

pub after_range : (r : Range) (c : ℕ) → (r.1 < c) → in_range r c ≡ false
after_range r c l = grind (arith, in_range_tells r c)

pub within_range : (r : Range) (c : ℕ) → r.0 ≤ c → c ≤ r.1 → in_range r c ≡ true
within_range r c l m = grind (arith, in_range_tells r c)

pub first_step : (r : Range) (rest : List Range) (c : ℕ) (b : Bool) → in_range r c ≡ b
    → in_ranges (r ∷ rest) c ≡ (b || in_ranges rest c)
unfolding in_ranges
first_step r rest c b h = ap (λ x. x || in_ranges rest c) h

-- a gap up to a number at which nothing began
pub gap : (R rest : List Range) (out out' : List (ℕ × ℕ)) (e g within outside : ℕ) → Ranging R rest out e within outside
    → e ≤ g → g ≤ 0x30000 → rises_from g rest ≡ true →
    covers out' g ≡ true → are_merged out' ≡ true
    → ((c : ℕ) → c < g → value_at out' c ≡ cond (nat_le e c) outside (value_at out c)) →
    ((n : ℕ) → outside < n → All (λ i. i < n) (targets_of out) → All (λ i. i < n) (targets_of out'))
    → Ranging R rest out' g within outside
gap R rest out out' e g within outside m l b h whole merged value targets = record {
  whole = whole;
  merged = merged;
  targets = λ n p q. targets n q (m.targets n p q);
  below = λ c k. value c k ∙ at c k (nat_le e c) refl;
  above = λ c k. m.above c (omega arith);
  rises = h;
  bound = b;
}
  where
    at : (c : ℕ) → c < g → (u : Bool) → nat_le e c ≡ u
        → cond (nat_le e c) outside (value_at out c) ≡ cond (in_ranges R c) within outside
    at c k true u =
        let z : in_ranges R c ≡ false = m.above c (leb-true e c u) ∙ in_ranges-below g rest c h k in
        ap (λ x. cond x outside (value_at out c)) u ∙ ap (λ x. cond x within outside) (sym z)
    at c k false u =
        let z : c < e = grind (arith, nat_tests) in
        ap (λ x. cond x outside (value_at out c)) u ∙ m.below c z

-- and then a range
pub ranged : (R rest : List Range) (r : Range) (out out' : List (ℕ × ℕ)) (within outside : ℕ)
    → Ranging R (r ∷ rest) out r.0 within outside →
    ((x : ℕ) → r.0 < x → covers out' x ≡ true) → are_merged out' ≡ true
    → ((c : ℕ) → value_at out' c ≡ cond (nat_le r.0 c) within (value_at out c)) →
    ((n : ℕ) → within < n → All (λ i. i < n) (targets_of out) → All (λ i. i < n) (targets_of out'))
    → Ranging R rest out' (r.1 + 1) within outside
ranged R rest r out out' within outside m whole merged value targets =
    let f : Fits r.0 r rest = fits r.0 r rest m.rises in
    let a : r.0 ≤ r.1 = f.order in
    let b : r.1 ≤ 0x2ffff = f.character in
    record {
      whole = whole (r.1 + 1) (omega arith);
      merged = merged;
      targets = λ n p q. targets n p (m.targets n p q);
      below = λ c k. value c ∙ at c k (nat_le r.0 c) refl;
      above = λ c k. m.above c (omega arith) ∙ first_step r rest c false (after_range r c (omega arith));
      rises = rises_from-weaker (r.1 + 2) (r.1 + 1) rest (omega arith) f.rest_rises;
      bound = omega arith;
    }
  where
    at : (c : ℕ) → c < r.1 + 1 → (u : Bool) → nat_le r.0 c ≡ u
        → cond (nat_le r.0 c) within (value_at out c) ≡ cond (in_ranges R c) within outside
    at c k true u =
        let l : r.0 ≤ c = leb-true r.0 c u in
        let z : in_ranges R c ≡ true = m.above c l ∙ first_step r rest c true (within_range r c l (omega arith)) in
        ap (λ x. cond x within (value_at out c)) u ∙ ap (λ x. cond x within outside) (sym z)
    at c k false u =
        let z : c < r.0 = grind (arith, nat_tests) in
        ap (λ x. cond x within (value_at out c)) u ∙ m.below c z

pub rises_at_start : (e : ℕ) (r : Range) (rest : List Range) → rises_from e (r ∷ rest) ≡ true
    → rises_from r.0 (r ∷ rest) ≡ true
rises_at_start e r rest h =
    let p = rises_from-parts e r rest h in rises_from-join r.0 r rest (omega arith) p.1 p.2 p.3

next_range : (R : List Range) (k : ℕ) → k < length R → drop k R ≡ get_or R k (0, 0) ∷ drop (k + 1) R
next_range R k l = drop_more R k (0, 0) l

pub here : (R : List Range) (k : ℕ) (out : List (ℕ × ℕ)) (e within outside : ℕ)
    → Ranging R (drop k R) out e within outside → k < length R
    → Ranging R (get_or R k (0, 0) ∷ drop (k + 1) R) out e within outside
here R k out e within outside m l = subst (λ (xs : List Range). Ranging R xs out e within outside) (next_range R k l) m

pub fits_here : (R : List Range) (k : ℕ) (out : List (ℕ × ℕ)) (e within outside : ℕ)
    → Ranging R (drop k R) out e within outside → k < length R → Fits e (get_or R k (0, 0)) (drop (k + 1) R)
fits_here R k out e within outside m l =
    fits e (get_or R k (0, 0)) (drop (k + 1) R) (here R k out e within outside m l).rises

pub ranging_step : (R : List Range) (k : ℕ) (out out1 out2 : List (ℕ × ℕ)) (e within outside : ℕ)
    → Ranging R (drop k R) out e within outside → k < length R →
    covers out1 (get_or R k (0, 0)).0 ≡ true → are_merged out1 ≡ true
    → ((c : ℕ) → c < (get_or R k (0, 0)).0 → value_at out1 c ≡ cond (nat_le e c) outside (value_at out c)) →
    ((n : ℕ) → outside < n → All (λ i. i < n) (targets_of out) → All (λ i. i < n) (targets_of out1)) →
    ((x : ℕ) → (get_or R k (0, 0)).0 < x → covers out2 x ≡ true) → are_merged out2 ≡ true
    → ((c : ℕ) → value_at out2 c ≡ cond (nat_le (get_or R k (0, 0)).0 c) within (value_at out1 c)) →
    ((n : ℕ) → within < n → All (λ i. i < n) (targets_of out1) → All (λ i. i < n) (targets_of out2)) →
    Ranging R (drop (k + 1) R) out2 ((get_or R k (0, 0)).1 + 1) within outside
ranging_step R k out out1 out2 e within outside m l a b c d p q r s =
    let h = here R k out e within outside m l in
    let f : Fits e (get_or R k (0, 0)) (drop (k + 1) R) = fits_here R k out e within outside m l in
    let u : e ≤ (get_or R k (0, 0)).0 = f.start in
    let v : (get_or R k (0, 0)).0 ≤ (get_or R k (0, 0)).1 = f.order in
    let w : (get_or R k (0, 0)).1 ≤ 0x2ffff = f.character in
    let g = gap R (get_or R k (0, 0) ∷ drop (k + 1) R) out out1 e (get_or R k (0, 0)).0 within outside h u (omega arith)
    (rises_at_start e (get_or R k (0, 0)) (drop (k + 1) R) h.rises) a b c d in
    ranged R (drop (k + 1) R) (get_or R k (0, 0)) out1 out2 within outside g p q r s

nothing_to_come : (R : List Range) (k : ℕ) → length R ≤ k → drop k R ≡ []
nothing_to_come R k l = empty (drop k R) (omega (arith, length-drop k R))
  where
    empty : (xs : List Range) → length xs ≡ 0 → xs ≡ []
    empty [] e = refl
    empty (x ∷ xs) e = absurd (omega arith)

pub ranging_done : (R : List Range) (k : ℕ) (out out' : List (ℕ × ℕ)) (e within outside : ℕ)
    → Ranging R (drop k R) out e within outside → length R ≤ k →
    covers out' 0x30000 ≡ true → are_merged out' ≡ true
    → ((c : ℕ) → c < 0x30000 → value_at out' c ≡ cond (nat_le e c) outside (value_at out c)) →
    ((n : ℕ) → outside < n → All (λ i. i < n) (targets_of out) → All (λ i. i < n) (targets_of out'))
    → Ranging R [] out' 0x30000 within outside
unfolding rises_from
ranging_done R k out out' e within outside m l a b c d =
    let h = subst (λ (xs : List Range). Ranging R xs out e within outside) (nothing_to_come R k l) m in
    gap R [] out out' e 0x30000 within outside h m.bound (omega arith) refl a b c d
