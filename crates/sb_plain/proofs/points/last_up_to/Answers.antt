use Rattle.std.proofs.Common.{ℕ, ◌≡◌, get_or, ◌∷◌, sym, ap, ◌∙◌, leb, leb-true, arith, rules}
use Rattle.std.proofs.lemmas.Bool.{leb-false}
use Rattle.std.proofs.lemmas.List.Sorted.{IsPartitionPoint-from_clause, IsPartitionedBy-leb}
use Rattle.std.proofs.lemmas.Map.Keys.{sorted_from_strictly_increasing, non_decreasing_from_sorted}
use Rattle.sb_plain.proofs.PointFacts.{floor_at, before}
use Rattle.sb_plain.proofs.points.last_up_to.Goals as goal

pub returns-then-place-eq0 : goal.returns-then-place-eq0
returns-then-place-eq0 c =
    let sorted = non_decreasing_from_sorted _ (sorted_from_strictly_increasing c.args.points.now c.requires) in
    let parted = IsPartitionedBy-leb (λ (p : ℕ). p) _ c.args.c sorted in
    let point = IsPartitionPoint-from_clause (λ (p : ℕ). leb p c.args.c) _ _
    c.partition_point-place.ensures.partitioned parted (λ a r q k. search rules) in
    let p : c.partition_point-place.result ≡ 0 = omega (arith, c.if-place-eq0.true) in
    ap (λ i. get_or (0 ∷ c.args.points.now) i 0) (sym p)
    ∙ floor_at c.args.points.now c.args.c c.partition_point-place.result 0 c.partition_point-place.ensures.bound
    (λ k l. leb-true _ _ (point.0 k 0 (omega arith) l)) (λ k l m. leb-false _ _ (point.1 k 0 l m))

pub returns-else-place-eq0 : goal.returns-else-place-eq0
returns-else-place-eq0 c =
    let sorted = non_decreasing_from_sorted _ (sorted_from_strictly_increasing c.args.points.now c.requires) in
    let parted = IsPartitionedBy-leb (λ (p : ℕ). p) _ c.args.c sorted in
    let point = IsPartitionPoint-from_clause (λ (p : ℕ). leb p c.args.c) _ _
    c.partition_point-place.ensures.partitioned parted (λ a r q k. search rules) in
    before c.args.points.now c.partition_point-place.result 0 (omega (arith, c.if-place-eq0.false))
    ∙ floor_at c.args.points.now c.args.c c.partition_point-place.result 0 c.partition_point-place.ensures.bound
    (λ k l. leb-true _ _ (point.0 k 0 (omega arith) l)) (λ k l m. leb-false _ _ (point.1 k 0 l m))
