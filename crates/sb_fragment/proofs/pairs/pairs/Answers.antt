use Rattle.std.proofs.Common.{◌++◌, ap, arith}
use Rattle.std.proofs.lemmas.List.{take_rest}
use Rattle.sb_fragment.specs.Compared.{pairs}
use Rattle.sb_fragment.proofs.ComparedPairs.{pairs_step, pairs_end}
use Rattle.sb_fragment.proofs.pairs.pairs.Goals as goal

pub loop-left-init : goal.loop-left-init
loop-left-init g c = ap (λ found. found ++ pairs c.args.items.now) c.new-found.ensures.items

pub loop-left-preserved : goal.loop-left-preserved
loop-left-preserved g c =
    pairs_step c.loop-left.found.items c.put_with_each.new.found.items _ c.loop-left.left.now _ c.first-item.result
    (omega (arith, c.in-len1-up.len_at_least)) (take_rest c.loop-left.left.now 1) c.first-item.is c.loop-left.invariant
    c.in_ok-put_with_each.ensures

pub returns : goal.returns
returns g c = pairs_end c.loop-left.found.items _ c.loop-left.left.now c.loop-left.invariant c.in_default.len_below
