-- The characters between the ranges of a list.
use Rattle.std.proofs.Common.{◌≡◌, ℕ, ◌+◌, ◌-◌, ◌<◌, ◌≤◌, ◌||◌, ◌&&◌, not, nat_le, Bool, true, false, List, [], ◌∷◌, ◌++◌, refl, sym, ap, ◌∙◌, arith}
use Rattle.std.proofs.lemmas.Bool.Decides.{nat_tests}
use Rattle.sb_class.specs.Ranges.{Range, in_range, in_ranges, rises_from, IsCanonical}
use Rattle.sb_word.specs.Words.{is_character}
use Rattle.sb_class.proofs.RangeFacts.{in_range_tells, in_ranges-nil, in_ranges-cons, in_ranges-push, rises_from-nil, rises_from-parts, rises_from-weaker, members_from}
use Rattle.sb_class.proofs.Pushing.{next_free, next_free-nil, next_free-push, canonical_push}

-- the gaps so far, and what is no member from the number on, are all that is no member
pub record Gapped (all out rest : List Range) (next : ℕ) : Type 0 where
  pub canonical : IsCanonical out
  pub free : next_free 0 out ≤ next
  pub fits : rises_from next rest ≡ true
  pub within : next ≤ 0x30000
  pub members : (c : ℕ)
      → (in_ranges out c || (nat_le next c && (is_character c && not (in_ranges rest c))))
      ≡ (is_character c && not (in_ranges all c))

pub gaps_start : (all out : List Range) → out ≡ [] → IsCanonical all → Gapped all out all 0
gaps_start all out none h = rw none (record {
  canonical = rises_from-nil 0;
  free = omega (arith, next_free-nil 0);
  fits = h;
  within = omega arith;
  members = λ c. grind (arith, nat_tests, in_ranges-nil c);
})

-- the gap before a range, where there is one
gap_kept : (o rest : Bool) (r : Range) (next c : ℕ) → next < r.0 → r.0 ≤ r.1 → r.1 ≤ 0x2ffff
    → (rest ≡ true → r.1 + 2 ≤ c)
    → ((o || in_range (next, r.0 - 1) c) || (nat_le (r.1 + 1) c && (is_character c && not rest)))
    ≡ (o || (nat_le next c && (is_character c && not (in_range r c || rest))))
gap_kept true rest r next c lt le within above = refl
gap_kept false true r next c lt le within above =
    grind (arith, nat_tests, in_range_tells (next, r.0 - 1) c, in_range_tells r c, above refl)
gap_kept false false r next c lt le within above =
    grind (arith, nat_tests, in_range_tells (next, r.0 - 1) c, in_range_tells r c)

no_gap : (o rest : Bool) (r : Range) (next c : ℕ) → next ≡ r.0 → r.0 ≤ r.1 → (rest ≡ true → r.1 + 2 ≤ c)
    → (o || (nat_le (r.1 + 1) c && (is_character c && not rest)))
    ≡ (o || (nat_le next c && (is_character c && not (in_range r c || rest))))
no_gap true rest r next c is le above = refl
no_gap false true r next c is le above = grind (arith, nat_tests, in_range_tells r c, above refl)
no_gap false false r next c is le above = grind (arith, nat_tests, in_range_tells r c)

pub gaps_add : (all out new : List Range) (r : Range) (rs : List Range) (next : ℕ) → Gapped all out (r ∷ rs) next
    → next < r.0 → new ≡ out ++ (next, r.0 - 1) ∷ [] → Gapped all new rs (r.1 + 1)
gaps_add all out new r rs next g lt is =
    let p = rises_from-parts next r rs g.fits in
    let gap : Range = (next, r.0 - 1) in
    rw is (record {
      canonical = canonical_push out gap g.canonical g.free (omega arith) (omega arith);
      free = omega (arith, next_free-push 0 out gap);
      fits = rises_from-weaker _ _ rs (omega arith) p.3;
      within = omega arith;
      members = λ c. ap (λ x. x || (nat_le (r.1 + 1) c && (is_character c && not (in_ranges rs c))))
          (in_ranges-push out gap c)
          ∙ gap_kept (in_ranges out c) (in_ranges rs c) r next c lt p.1 p.2 (members_from _ rs c p.3)
          ∙ ap (λ x. in_ranges out c || (nat_le next c && (is_character c && not x))) (sym (in_ranges-cons r rs c))
          ∙ g.members c;
    })

pub gaps_skip : (all out : List Range) (r : Range) (rs : List Range) (next : ℕ) → Gapped all out (r ∷ rs) next
    → r.0 ≤ next → Gapped all out rs (r.1 + 1)
gaps_skip all out r rs next g ge =
    let p = rises_from-parts next r rs g.fits in record {
      canonical = g.canonical;
      free = omega (arith, g.free);
      fits = rises_from-weaker _ _ rs (omega arith) p.3;
      within = omega arith;
      members = λ c. no_gap (in_ranges out c) (in_ranges rs c) r next c (omega arith) p.1 (members_from _ rs c p.3)
          ∙ ap (λ x. in_ranges out c || (nat_le next c && (is_character c && not x))) (sym (in_ranges-cons r rs c))
          ∙ g.members c;
    }

last_gap : (o : Bool) (next c : ℕ)
    → (o || in_range (next, 0x2ffff) c) ≡ (o || (nat_le next c && (is_character c && not false)))
last_gap true next c = refl
last_gap false next c = grind (arith, nat_tests, in_range_tells (next, 0x2ffff) c)

no_last_gap : (o : Bool) (next c : ℕ) → 0x2ffff < next → o ≡ (o || (nat_le next c && (is_character c && not false)))
no_last_gap true next c h = refl
no_last_gap false next c h = grind (arith, nat_tests)

pub gaps_end_add : (all out new : List Range) (next : ℕ) → Gapped all out [] next → next ≤ 0x2ffff
    → new ≡ out ++ (next, 0x2ffff) ∷ []
    → IsCanonical new × ((c : ℕ) → in_ranges new c ≡ (is_character c && not (in_ranges all c)))
gaps_end_add all out new next g le is = rw is (
  canonical_push out (next, 0x2ffff) g.canonical g.free le (omega arith),
  λ c. in_ranges-push out (next, 0x2ffff) c ∙ last_gap (in_ranges out c) next c
      ∙ ap (λ x. in_ranges out c || (nat_le next c && (is_character c && not x))) (sym (in_ranges-nil c)) ∙ g.members c,
)

pub gaps_end_skip : (all out : List Range) (next : ℕ) → Gapped all out [] next → 0x2ffff < next
    → IsCanonical out × ((c : ℕ) → in_ranges out c ≡ (is_character c && not (in_ranges all c)))
gaps_end_skip all out next g lt = (
  g.canonical,
  λ c. no_last_gap (in_ranges out c) next c lt
      ∙ ap (λ x. in_ranges out c || (nat_le next c && (is_character c && not x))) (sym (in_ranges-nil c)) ∙ g.members c,
)

-- a range that is left ends at a character
pub gap_fits : (all out : List Range) (r : Range) (rs : List Range) (next : ℕ) → Gapped all out (r ∷ rs) next
    → r.1 ≤ 0x2ffff
gap_fits all out r rs next g = (rises_from-parts next r rs g.fits).2
