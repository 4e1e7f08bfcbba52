use Rattle.std.proofs.Common.{sym, ◌∙◌}
use Rattle.sb_models.proofs.KindFacts.{kinds_next, kind_fails}
use Rattle.sb_models.proofs.kinds.are_kinds.Goals as goal

pub loop-place-preserved : goal.loop-place-preserved
loop-place-preserved c =
    kinds_next c.args.constants.now c.args.values.now c.loop-place.place _ c.index-values-place.result
    c.loop-place-test.true c.requires c.index-values-place.is (sym c.is_kind.ensures ∙ c.if-not-is_kind.false)
    c.loop-place.invariant

pub returns-then-not-is_kind : goal.returns-then-not-is_kind
returns-then-not-is_kind c =
    sym (kind_fails c.args.constants.now c.args.values.now c.loop-place.place _ c.index-values-place.result
    c.loop-place-test.true c.requires c.index-values-place.is (sym c.is_kind.ensures ∙ c.if-not-is_kind.true)
    c.loop-place.invariant)
