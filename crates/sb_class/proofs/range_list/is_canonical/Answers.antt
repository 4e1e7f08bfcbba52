use Rattle.std.proofs.Common.{◌≡◌, ℕ, ◌+◌, ◌≤◌, Bool, true, false, List, ◌∷◌, drop, refl, sym, ap, ◌∙◌, arith, ◌&&◌}
use Rattle.std.proofs.lemmas.Bool.{both_ways}
use Rattle.std.proofs.lemmas.List.{drop_more, drop_all}
use Rattle.sb_class.specs.Ranges.{Range, rises_from, IsCanonical}
use Rattle.sb_class.proofs.RangeFacts.{range_at, le-fits_from, rises_from-nil, rises_from-cons, rises_from-parts}
use Rattle.sb_class.proofs.range_list.is_canonical.Goals as goal
use Rattle.sb_class.proofs.range_list.is_canonical.Goals.{then-range-next-via-then-range-next, then-range-next-via-else-range-next+then-range, then-range-next-via-else-range-next+else-range+then-range-gt-LAST_CHARACTER}

-- a range that fits leaves the question to the rest
passed : (n : ℕ) (r : Range) (rs : List Range) (answer : Bool) → rises_from n (r ∷ rs) ≡ answer → n ≤ r.0 → r.0 ≤ r.1
    → r.1 ≤ 0x2ffff → rises_from (r.1 + 2) rs ≡ answer
passed n r rs answer is a b d =
    sym (rises_from-cons n r rs ∙ ap (λ x. x && rises_from (r.1 + 2) rs) (le-fits_from n r a b d)) ∙ is

pub returns-then-range-next : goal.returns-then-range-next
returns-then-range-next c =
    let rs = c.args.ranges.now in
    let i = c.loop-range.range-index in
    let r = range_at rs i in
    let from = c.loop-range.next in
    let fails : (from ≤ r.0) × (r.0 ≤ r.1) × (r.1 ≤ 0x2ffff) × (rises_from (r.1 + 2) (drop (i + 1) rs) ≡ true) → ⊥ =
    λ p. elim c.then-range-next.branch [
      | then-range-next-via-then-range-next w ↦ omega arith
      | then-range-next-via-else-range-next+then-range w ↦ omega arith
      | then-range-next-via-else-range-next+else-range+then-range-gt-LAST_CHARACTER w ↦ omega arith
    ] in (
      λ t. absurd (both_ways false refl t),
      λ h. absurd (fails (rises_from-parts from r (drop (i + 1) rs)
          (ap (rises_from from) (sym (drop_more rs i (0, 0) c.loop-range-test.true)) ∙ c.loop-range.invariant.1 ∙ h))),
    )

pub loop-range-preserved : goal.loop-range-preserved
loop-range-preserved c =
    let rs = c.args.ranges.now in
    let i = c.loop-range.range-index in (
      omega arith,
      passed c.loop-range.next (range_at rs i) (drop (i + 1) rs) _
          (ap (rises_from c.loop-range.next) (sym (drop_more rs i (0, 0) c.loop-range-test.true))
          ∙ c.loop-range.invariant.1)
          c.if-range-next.false c.if-range.false c.if-range-gt-LAST_CHARACTER.false,
    )

pub returns : goal.returns
returns c =
    let rs = c.args.ranges.now in
    let yes : IsCanonical rs = sym c.loop-range.invariant.1
    ∙ ap (rises_from c.loop-range.next) (drop_all c.loop-range.range-index rs c.loop-range-test.false)
    ∙ rises_from-nil c.loop-range.next in
    (λ _. yes, λ _. refl)
