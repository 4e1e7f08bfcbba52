-- Between the cut points of a regex: where its derivative is a target at the first character of a piece and at each
-- point in it, it is so throughout.
use Rattle.std.proofs.Common.{◌≡◌, ℕ, suc, inl, inr, ◌+◌, ◌<◌, ◌≤◌, Bool, true, false, ◌&&◌, ◌||◌, nat_le, nat_lt, if◌then◌else◌, List, [], ◌∷◌, length, get_or, drop, ◌⊎◌, refl, sym, ap, ap₂, subst, ◌∙◌, arith}
use Rattle.std.specs.List.{All, list_all}
use Rattle.std.specs.List.Sorted.{IsStrictlyIncreasing}
use Rattle.std.proofs.lemmas.Bool.{and_parts, true≢false, false≢true, cases_lt}
use Rattle.std.proofs.lemmas.Bool.Decides.{nat_tests}
use Rattle.std.proofs.lemmas.List.{at_drop_more}
use Rattle.std.proofs.lemmas.List.Elements.{All-head, All-tail}
use Rattle.std.proofs.lemmas.Map.Keys.{sorted_from_strictly_increasing, non_decreasing_from_sorted}
use Rattle.sb_lang.specs.Regex.{Regex}
use Rattle.sb_lang.specs.Order.{regex_eq}
use Rattle.sb_lang.specs.Derivative.{nd}
use Rattle.sb_regex.specs.Numbered.{regex_at, Extends}
use Rattle.sb_regex.proofs.CallerLemmas.{at_kept}
use Rattle.sb_plain.specs.CutPoints.{none_between, AreCutPoints}
use Rattle.sb_rules.specs.Pieces.{Piece, leads_at, is_right_in, LeadsRight, LeadRight}
use Rattle.sb_rules.proofs.Counts.{is-le, le-is}

-- The last point at or below a character, or the number to begin with.

record IsFloor (t : ℕ → Bool) (points : List ℕ) (d c : ℕ) : Type 0 where
  pub floor : ℕ
  pub above : d ≤ floor
  pub below : floor ≤ c
  pub passes : t floor ≡ true
  pub none : none_between points floor c ≡ true

weaker-at : (p d e c : ℕ) → d ≤ e → (nat_le p d || nat_lt c p) ≡ true → (nat_le p e || nat_lt c p) ≡ true
weaker-at p d e c l h = grind (arith, nat_tests)

weaker : (points : List ℕ) (d e c : ℕ) → d ≤ e → none_between points d c ≡ true → none_between points e c ≡ true
weaker [] d e c l h = refl
weaker (p ∷ ps) d e c l h =
    let q = and_parts (nat_le p d || nat_lt c p) (none_between ps d c) h in
    ap₂ ◌&&◌ (weaker-at p d e c l q.0) (weaker ps d e c l q.1)

below-is : (p e c : ℕ) → p ≤ e → (nat_le p e || nat_lt c p) ≡ true
below-is p e c l = grind (arith, nat_tests)

above-is : (p e c : ℕ) → c < p → (nat_le p e || nat_lt c p) ≡ true
above-is p e c l = grind (arith, nat_tests)

module _ (t : ℕ → Bool) (c : ℕ) where
  abbrev pub PassesFrom : ℕ → List ℕ → Type 0
  PassesFrom d ps = (k : ℕ) → k < length ps → d < get_or ps k 0 → get_or ps k 0 ≤ c → t (get_or ps k 0) ≡ true

  has-floor : (ps : List ℕ) (d : ℕ) → d ≤ c → t d ≡ true → PassesFrom d ps → IsFloor t ps d c
  has-floor [] d l h g = record { floor = d; above = omega arith; below = l; passes = h; none = refl }
  has-floor (p ∷ ps) d l h g =
      step (has-floor ps d l h (λ k m. g (suc k) (omega (arith, m))))
    where
      step : IsFloor t ps d c → IsFloor t (p ∷ ps) d c
      step f = by (cases_lt f.floor p) (cases_lt c p)
        where
          by : (f.floor < p) ⊎ (p ≤ f.floor) → (c < p) ⊎ (p ≤ c) → IsFloor t (p ∷ ps) d c
          by (inr low) past = record {
            floor = f.floor;
            above = f.above;
            below = f.below;
            passes = f.passes;
            none = ap₂ ◌&&◌ (below-is p f.floor c low) f.none;
          }
          by (inl high) (inl past) = record {
            floor = f.floor;
            above = f.above;
            below = f.below;
            passes = f.passes;
            none = ap₂ ◌&&◌ (above-is p f.floor c past) f.none;
          }
          by (inl high) (inr here) =
              let a = f.above in
              record {
                floor = p;
                above = omega (arith, a, high);
                below = here;
                passes = g 0 (omega arith) (omega (arith, a, high)) here;
                none = ap₂ ◌&&◌ (below-is p p c (omega arith)) (weaker ps f.floor p c (omega (arith, high)) f.none);
              }

-- One piece.

module _ (rs : List Regex) (r : Regex) (p : Piece) where
  pub wrong-at : (c : ℕ) → p.0 ≤ c → c ≤ p.1.0 → leads_at rs r c p ≡ false → is_right_in rs r c p ≡ false
  wrong-at c l m h =
      ap₂ (λ a b. if a && b then leads_at rs r c p else true) (is-le p.0 c l) (is-le c p.1.0 m) ∙ h

  pub wrong-piece : (c : ℕ) → p.0 ≤ c → c ≤ p.1.0 → p.1.0 ≤ 0x2ffff → leads_at rs r c p ≡ false
      → LeadsRight rs r p false
  wrong-piece c l m u h = (c, is-le c 0x2ffff (omega (arith, m, u)), wrong-at c l m h)

  right-within : ((c : ℕ) → p.0 ≤ c → c ≤ p.1.0 → leads_at rs r c p ≡ true) → LeadsRight rs r p true
  right-within h c = step (nat_le p.0 c) (nat_le c p.1.0) refl refl
    where
      step : (a b : Bool) → nat_le p.0 c ≡ a → nat_le c p.1.0 ≡ b
          → (if a && b then leads_at rs r c p else true) ≡ true
      step true true e f = h c (le-is p.0 c e) (le-is c p.1.0 f)
      step true false e f = refl
      step false b e f = refl

  pub right-piece : (points : List ℕ) → AreCutPoints r points → p.1.0 ≤ 0x2ffff → leads_at rs r p.0 p ≡ true
      → ((k : ℕ) → k < length points → p.0 < get_or points k 0 → get_or points k 0 ≤ p.1.0
      → leads_at rs r (get_or points k 0) p ≡ true)
      → LeadsRight rs r p true
  right-piece points cut u h g =
      right-within
      (λ c l m. let f = has-floor (λ d. leads_at rs r d p) c points p.0 l h
      (λ k i a b. g k i a (omega (arith, b, m))) in
      ap (λ s. regex_eq s (regex_at rs p.1.1))
      (sym (cut.same f.floor c f.below (is-le c 0x2ffff (omega (arith, m, u))) f.none))
      ∙ f.passes)

  pub is-wrong : (b : Bool) → b ≡ false → LeadsRight rs r p b → LeadsRight rs r p false
  is-wrong true e h = absurd (true≢false e)
  is-wrong false e h = h

  pub is-right : (b : Bool) → b ≡ true → LeadsRight rs r p b → LeadsRight rs r p true
  is-right true e h = h
  is-right false e h = absurd (false≢true e)

-- The points that are looked at.

module _ (points : List ℕ) (rises : IsStrictlyIncreasing points) where
  pub in-order : (i k : ℕ) → i ≤ k → k < length points → get_or points i 0 ≤ get_or points k 0
  in-order i k l m = non_decreasing_from_sorted _ (sorted_from_strictly_increasing points rises) i k 0 l m

  pub all-looked-at : (t : ℕ → Bool) (first last i : ℕ)
      → ((k : ℕ) → k < i → first < get_or points k 0 → t (get_or points k 0) ≡ true)
      → (i < length points → last < get_or points i 0)
      → (k : ℕ) → k < length points → first < get_or points k 0 → get_or points k 0 ≤ last
      → t (get_or points k 0) ≡ true
  all-looked-at t first last i past ends k l a b = by (cases_lt k i)
    where
      by : (k < i) ⊎ (i ≤ k) → t (get_or points k 0) ≡ true
      by (inl low) = past k low a
      by (inr high) =
          let m = ends (omega (arith, high, l)) in
          let o = in-order i k high l in
          absurd (omega (arith, m, o, b))

-- All pieces, in an arena that grows.

pub item-has : (P : Piece → Type 0) (ps : List Piece) (i : ℕ) (p : Piece) → i < length ps → p ≡ get_or ps i p
    → All P ps → P p
item-has P ps i p l e h = subst P (sym e) (h i p l)

module _ (old new : List Regex) (r : ℕ) (e : Extends old new) (l : r < length old) where
  pub kept-right : (p : Piece) → p.1.1 < length old → (c : ℕ)
      → is_right_in new (regex_at new r) c p ≡ is_right_in old (regex_at old r) c p
  kept-right p m c =
      ap₂ (λ a b. if nat_le p.0 c && nat_le c p.1.0 then regex_eq (nd a c) b else true) (at_kept old new r e l)
      (at_kept old new p.1.1 e m)

  pub kept-leads : (t : ℕ) → t < length old → (c : ℕ)
      → regex_eq (nd (regex_at new r) c) (regex_at new t) ≡ regex_eq (nd (regex_at old r) c) (regex_at old t)
  kept-leads t m c = ap₂ (λ a b. regex_eq (nd a c) b) (at_kept old new r e l) (at_kept old new t e m)

  pub all-kept : (ps : List Piece) → All (λ p. p.1.1 < length old) ps → (c : ℕ)
      → list_all (is_right_in new (regex_at new r) c) ps ≡ list_all (is_right_in old (regex_at old r) c) ps
  all-kept [] h c = refl
  all-kept (p ∷ ps) h c =
      ap₂ ◌&&◌ (kept-right p (All-head (λ (p : Piece). p.1.1 < length old) p ps h) c)
      (all-kept ps (All-tail (λ (p : Piece). p.1.1 < length old) p ps h) c)

  -- the next piece of those that are left
  module _ (ps : List Piece) (i : ℕ) (p : Piece) (m : i < length ps) (is : p ≡ get_or ps i p)
      (known : p.1.1 < length old)
      (left : (c : ℕ) → list_all (is_right_in old (regex_at old r) c) (drop i ps)
      ≡ list_all (is_right_in old (regex_at old r) c) ps) where
    taken : (c : ℕ) → list_all (is_right_in old (regex_at old r) c) (drop i ps)
        ≡ (is_right_in old (regex_at old r) c p && list_all (is_right_in old (regex_at old r) c) (drop (i + 1) ps))
    taken c =
        at_drop_more (list_all (is_right_in old (regex_at old r) c)) ps i p m
        ∙ ap
        (λ x. is_right_in old (regex_at old r) c x && list_all (is_right_in old (regex_at old r) c) (drop (i + 1) ps))
        (sym is)

    pub left-right : (b : Bool) → b ≡ true → LeadsRight new (regex_at new r) p b → (c : ℕ)
        → list_all (is_right_in old (regex_at old r) c) (drop (i + 1) ps)
        ≡ list_all (is_right_in old (regex_at old r) c) ps
    left-right b h right c =
        let here = sym (kept-right p known c) ∙ is-right new (regex_at new r) p b h right c in
        sym (ap (λ x. x && list_all (is_right_in old (regex_at old r) c) (drop (i + 1) ps)) here)
        ∙ sym (taken c)
        ∙ left c

    pub left-wrong : (b : Bool) → b ≡ false → LeadsRight new (regex_at new r) p b
        → LeadRight old (regex_at old r) ps false
    left-wrong b h wrong =
        let w = is-wrong new (regex_at new r) p b h wrong in (
          w.0,
          w.1,
          sym (left w.0)
              ∙ taken w.0
              ∙ ap (λ x. x && list_all (is_right_in old (regex_at old r) w.0) (drop (i + 1) ps))
              (sym (kept-right p known w.0) ∙ w.2),
        )
