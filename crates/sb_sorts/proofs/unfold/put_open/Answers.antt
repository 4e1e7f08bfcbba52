use Rattle.std.proofs.Common.{sym, ◌∙◌, arith}
use Rattle.std.proofs.lemmas.List.{take_all}
use Rattle.sb_sorts.proofs.OpenTerms.{open_none, open_more, open_skip, open_end}
use Rattle.sb_sorts.proofs.unfold.put_open.Goals as goal

pub loop-id-init : goal.loop-id-init
loop-id-init c = open_none c.args.table.now c.args.left.now.keys

pub loop-id-preserved : goal.loop-id-preserved
loop-id-preserved c =
    open_more c.args.table.now c.args.left.now.keys c.loop-id.left.keys c.args.ids.now c.loop-id.id-index
    c.id-item.result c.loop-id-test.true c.id-item.is c.put_all.new.left.keys c.loop-id.invariant
    (sym c.is_open.ensures ∙ c.if-not-is_open.false) c.in_ok-put_all.ensures

pub loop-id-preserved-then-not-is_open : goal.loop-id-preserved-then-not-is_open
loop-id-preserved-then-not-is_open c =
    open_skip c.args.table.now c.args.left.now.keys c.loop-id.left.keys c.args.ids.now c.loop-id.id-index
    c.id-item.result c.loop-id-test.true c.id-item.is c.loop-id.invariant
    (sym c.is_open.ensures ∙ c.if-not-is_open.true)

pub returns : goal.returns
returns c =
    open_end c.args.table.now c.args.left.now.keys c.loop-id.left.keys c.args.ids.now c.loop-id.id-index
    (take_all c.loop-id.id-index c.args.ids.now (omega (arith, c.loop-id-test.false))) c.loop-id.invariant
