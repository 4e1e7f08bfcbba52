use Rattle.std.proofs.Common.{◌++◌, ap, arith}
use Rattle.std.proofs.lemmas.List.{take_rest}
use Rattle.sb_fragment.specs.Compared.{neighbours}
use Rattle.sb_fragment.proofs.ComparedPairs.{neighbours_step, neighbours_end}
use Rattle.sb_fragment.proofs.pairs.neighbours.Goals as goal

pub loop-left-init : goal.loop-left-init
loop-left-init g c = ap (λ found. found ++ neighbours c.args.items.now) c.new-found.ensures.items

pub loop-left-preserved : goal.loop-left-preserved
loop-left-preserved g c =
    neighbours_step c.loop-left.found.items c.push.new.self.items _ c.loop-left.left.now _ c.one-item.result
    c.other-item.result (omega (arith, c.in-len2-up.len_at_least)) (take_rest c.loop-left.left.now 1) c.one-item.is
    c.other-item.is c.loop-left.invariant c.in_ok-push.ensures.items

pub returns : goal.returns
returns g c = neighbours_end c.loop-left.found.items _ c.loop-left.left.now c.loop-left.invariant c.in_default.len_below
