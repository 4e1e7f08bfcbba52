-- The ranges of the pieces that have a target.
use Rattle.std.proofs.Common.{◌≡◌, ℕ, suc, ◌+◌, ◌-◌, ◌<◌, ◌≤◌, Bool, true, false, not, ◌==◌, cond, List, [], ◌∷◌, refl, sym, ap, subst, ◌∙◌, arith}
use Rattle.std.specs.Prelude.{nat_le}
use Rattle.std.proofs.lemmas.Bool.{and_parts, not-true, le-leb, leb-true, eqb-true}
use Rattle.std.proofs.lemmas.Bool.Decides.{nat_tests}
use Rattle.sb_class.specs.Ranges.{Range, in_ranges, rises_from, IsCanonical}
use Rattle.sb_deriv.specs.Pieces.{value_from, value_at, rises, differs_from, are_merged, IsIntervalMap}
use Rattle.sb_deriv.specs.Choices.{first_of}
use Rattle.sb_deriv.proofs.PieceFacts.{rises_head, rises_rest, rises_le, rises_from_first, above_stays, covers_rises, covers_first}
use Rattle.sb_deriv.proofs.Ranging.{first_step, within_range, after_range}
use Rattle.sb_class.proofs.CallerLemmas.{in_ranges-below, rises_from-join, rises_from-weaker}

-- of each piece with the target the range up to the next piece
unfoldable pub ranges_to : ℕ → List (ℕ × ℕ) → List Range
ranges_to t [] = []
ranges_to t (p ∷ ps) = cond (p.1 == t) ((p.0, first_of 0x30000 ps - 1) ∷ ranges_to t ps) (ranges_to t ps)

pub ranges_to-nil : (t : ℕ) → ranges_to t [] ≡ []
unfolding ranges_to
ranges_to-nil t = refl

pub ranges_to-hit : (t : ℕ) (p : ℕ × ℕ) (ps : List (ℕ × ℕ)) → (p.1 == t) ≡ true
    → ranges_to t (p ∷ ps) ≡ (p.0, first_of 0x30000 ps - 1) ∷ ranges_to t ps
unfolding ranges_to
ranges_to-hit t p ps h = ap (λ b. cond b ((p.0, first_of 0x30000 ps - 1) ∷ ranges_to t ps) (ranges_to t ps)) h

pub ranges_to-miss : (t : ℕ) (p : ℕ × ℕ) (ps : List (ℕ × ℕ)) → (p.1 == t) ≡ false
    → ranges_to t (p ∷ ps) ≡ ranges_to t ps
unfolding ranges_to
ranges_to-miss t p ps h = ap (λ b. cond b ((p.0, first_of 0x30000 ps - 1) ∷ ranges_to t ps) (ranges_to t ps)) h

-- pieces without the first

first_within : (n : ℕ) (ps : List (ℕ × ℕ)) → rises n ps 0x30000 ≡ true → first_of 0x30000 ps ≤ 0x30000
first_within n [] h = omega arith
first_within n (p ∷ ps) h =
    let a : suc p.0 ≤ 0x30000 = rises_le (suc p.0) ps 0x30000 (rises_rest n p ps 0x30000 h) in omega arith

merged_rest : (p : ℕ × ℕ) (ps : List (ℕ × ℕ)) → are_merged (p ∷ ps) ≡ true → are_merged ps ≡ true
unfolding are_merged differs_from
merged_rest p [] h = refl
merged_rest p (q ∷ ps) h = (and_parts (not (q.1 == p.1)) (differs_from q.1 ps) h).1

merged_differs : (p : ℕ × ℕ) (ps : List (ℕ × ℕ)) → are_merged (p ∷ ps) ≡ true → differs_from p.1 ps ≡ true
unfolding are_merged
merged_differs p ps h = h

differs_first : (t : ℕ) (p : ℕ × ℕ) (ps : List (ℕ × ℕ)) → differs_from t (p ∷ ps) ≡ true → (p.1 == t) ≡ false
unfolding differs_from
differs_first t p ps h = not-true (p.1 == t) (and_parts (not (p.1 == t)) (differs_from p.1 ps) h).0

-- what is known of the pieces after one
pub record After (n : ℕ) (p : ℕ × ℕ) (ps : List (ℕ × ℕ)) : Type 0 where
  pub start : n ≤ p.0
  pub next : suc p.0 ≤ first_of 0x30000 ps
  pub within : first_of 0x30000 ps ≤ 0x30000
  pub rest : rises (first_of 0x30000 ps) ps 0x30000 ≡ true

pub after : (n : ℕ) (p : ℕ × ℕ) (ps : List (ℕ × ℕ)) → rises n (p ∷ ps) 0x30000 ≡ true → After n p ps
after n p ps h =
    let r : rises (suc p.0) ps 0x30000 ≡ true = rises_rest n p ps 0x30000 h in record {
      start = rises_head n (p ∷ ps) 0x30000 h;
      next = rises_head (suc p.0) ps 0x30000 r;
      within = first_within (suc p.0) ps r;
      rest = rises_from_first (suc p.0) (first_of 0x30000 ps) ps 0x30000 r (omega arith);
    }

rises_none : (t n : ℕ) → rises_from n (ranges_to t []) ≡ true
unfolding ranges_to rises_from
rises_none t n = refl

-- the ranges ascend with gaps, after a gap where the first piece has another target
pub rises_to : (t n : ℕ) (ps : List (ℕ × ℕ)) → rises n ps 0x30000 ≡ true → are_merged ps ≡ true →
    (rises_from n (ranges_to t ps) ≡ true) × (differs_from t ps ≡ true → rises_from (n + 1) (ranges_to t ps) ≡ true)
rises_to t n [] r m = (rises_none t n, λ _. rises_none t (n + 1))
rises_to t n (p ∷ ps) r m =
    by (p.1 == t) refl (after n p ps r) (rises_to t (first_of 0x30000 ps) ps (after n p ps r).rest (merged_rest p ps m))
  where
    by : (u : Bool) → (p.1 == t) ≡ u → After n p ps →
        (rises_from (first_of 0x30000 ps) (ranges_to t ps) ≡ true)
        × (differs_from t ps ≡ true → rises_from (first_of 0x30000 ps + 1) (ranges_to t ps) ≡ true) →
        (rises_from n (ranges_to t (p ∷ ps)) ≡ true)
        × (differs_from t (p ∷ ps) ≡ true → rises_from (n + 1) (ranges_to t (p ∷ ps)) ≡ true)
    by true u a i =
        let s : n ≤ p.0 = a.start in
        let x : suc p.0 ≤ first_of 0x30000 ps = a.next in
        let w : first_of 0x30000 ps ≤ 0x30000 = a.within in
        let d : differs_from t ps ≡ true =
        subst (λ k. differs_from k ps ≡ true) (eqb-true p.1 t u) (merged_differs p ps m) in
        let e : first_of 0x30000 ps + 1 ≡ first_of 0x30000 ps - 1 + 2 = omega arith in
        let l : rises_from (first_of 0x30000 ps - 1 + 2) (ranges_to t ps) ≡ true =
        subst (λ k. rises_from k (ranges_to t ps) ≡ true) e (i.1 d) in (
          ap (rises_from n) (ranges_to-hit t p ps u)
              ∙ rises_from-join n (p.0, first_of 0x30000 ps - 1) (ranges_to t ps) s (omega arith) (omega arith) l,
          λ f. absurd (no (differs_first t p ps f)),
        )
      where
        no : (p.1 == t) ≡ false → ⊥
        no v = cc
    by false u a i =
        let s : n ≤ p.0 = a.start in
        let x : suc p.0 ≤ first_of 0x30000 ps = a.next in (
          ap (rises_from n) (ranges_to-miss t p ps u)
              ∙ rises_from-weaker (first_of 0x30000 ps) n (ranges_to t ps) (omega arith) i.0,
          λ _. ap (rises_from (n + 1)) (ranges_to-miss t p ps u)
              ∙ rises_from-weaker (first_of 0x30000 ps) (n + 1) (ranges_to t ps) (omega arith) i.0,
        )

pub value_after : (d : ℕ) (p : ℕ × ℕ) (ps : List (ℕ × ℕ)) (c : ℕ) → p.0 ≤ c
    → value_from d (p ∷ ps) c ≡ value_from p.1 ps c
unfolding value_from
value_after d p ps c l = ap (λ b. value_from (cond b p.1 d) ps c) (le-leb p.0 c l)

-- a number lies in the ranges where its piece has the target
members_to : (d t n : ℕ) (ps : List (ℕ × ℕ)) (c : ℕ) → rises n ps 0x30000 ≡ true → are_merged ps ≡ true
    → first_of 0x30000 ps ≤ c → c < 0x30000 →
    in_ranges (ranges_to t ps) c ≡ (value_from d ps c == t)
members_to d t n [] c r m l k = absurd (omega arith)
members_to d t n (p ∷ ps) c r m l k =
    let a : After n p ps = after n p ps r in
    let rest : rises_from (first_of 0x30000 ps) (ranges_to t ps) ≡ true =
    (rises_to t (first_of 0x30000 ps) ps a.rest (merged_rest p ps m)).0 in
    by a rest (p.1 == t) refl (nat_le (first_of 0x30000 ps) c) refl
    (λ v. members_to p.1 t (first_of 0x30000 ps) ps c a.rest (merged_rest p ps m) (leb-true (first_of 0x30000 ps) c v)
    k)
    ∙ sym (ap (λ v. v == t) (value_after d p ps c l))
  where
    here : After n p ps → c < first_of 0x30000 ps → (p.1 == t) ≡ (value_from p.1 ps c == t)
    here a v = ap (λ x. x == t) (sym (above_stays p.1 (first_of 0x30000 ps) ps 0x30000 c a.rest v))

    before : nat_le (first_of 0x30000 ps) c ≡ false → c < first_of 0x30000 ps
    before v = grind (arith, nat_tests, v)

    by : After n p ps → rises_from (first_of 0x30000 ps) (ranges_to t ps) ≡ true → (u : Bool) → (p.1 == t) ≡ u
        → (v : Bool) → nat_le (first_of 0x30000 ps) c ≡ v →
        (nat_le (first_of 0x30000 ps) c ≡ true → in_ranges (ranges_to t ps) c ≡ (value_from p.1 ps c == t)) →
        in_ranges (ranges_to t (p ∷ ps)) c ≡ (value_from p.1 ps c == t)
    by a rest true u true v later =
        let x : suc p.0 ≤ first_of 0x30000 ps = a.next in
        let y : first_of 0x30000 ps ≤ c = leb-true (first_of 0x30000 ps) c v in
        ap (λ rs. in_ranges rs c) (ranges_to-hit t p ps u)
        ∙ first_step (p.0, first_of 0x30000 ps - 1) (ranges_to t ps) c false
        (after_range (p.0, first_of 0x30000 ps - 1) c (omega arith))
        ∙ later v
    by a rest true u false v later =
        let x : suc p.0 ≤ first_of 0x30000 ps = a.next in
        let y : c < first_of 0x30000 ps = before v in
        ap (λ rs. in_ranges rs c) (ranges_to-hit t p ps u)
        ∙ first_step (p.0, first_of 0x30000 ps - 1) (ranges_to t ps) c true
        (within_range (p.0, first_of 0x30000 ps - 1) c l (omega arith))
        ∙ sym u ∙ here a y
    by a rest false u true v later = ap (λ rs. in_ranges rs c) (ranges_to-miss t p ps u) ∙ later v
    by a rest false u false v later =
        let y : c < first_of 0x30000 ps = before v in
        ap (λ rs. in_ranges rs c) (ranges_to-miss t p ps u)
        ∙ in_ranges-below (first_of 0x30000 ps) (ranges_to t ps) c rest y
        ∙ sym u ∙ here a y

-- of a whole map

pub canonical_to : (t : ℕ) (ps : List (ℕ × ℕ)) → IsIntervalMap ps → IsCanonical (ranges_to t ps)
canonical_to t ps h = (rises_to t 0 ps (covers_rises ps 0x30000 h.whole) h.merged).0

pub is_target : (t : ℕ) (ps : List (ℕ × ℕ)) (c : ℕ) → IsIntervalMap ps → c < 0x30000
    → in_ranges (ranges_to t ps) c ≡ (value_at ps c == t)
is_target t ps c h l =
    let z : first_of 0x30000 ps ≡ 0 = covers_first ps 0x30000 h.whole in
    members_to 0 t 0 ps c (covers_rises ps 0x30000 h.whole) h.merged (omega arith) l
