use Rattle.std.proofs.Common.{ℕ, List, ap}
use Rattle.sb_trace.specs.Reaching.{is_member}
use Rattle.sb_trace.proofs.Pairs.{known_at, firsts_more, firsts_all}
use Rattle.sb_trace.proofs.trace.within.add_firsts.Goals as goal

pub loop-pair-init : goal.loop-pair-init
loop-pair-init c = λ n. ap (λ (ms : List ℕ). is_member ms n) c.requires.none

pub add_first-requires : goal.add_first-requires
add_first-requires c = record {
  known = (known_at c.args.arena.now c.args.pairs.now c.loop-pair.pair-index c.pair-item.result c.requires.known
      c.loop-pair-test.true c.pair-item.is).1;
}

pub loop-pair-preserved : goal.loop-pair-preserved
loop-pair-preserved c =
    firsts_more c.args.arena.now c.args.pairs.now c.loop-pair.pair-index c.pair-item.result c.loop-pair.members.keys
    c.add_first.new.members.keys c.loop-pair-test.true c.pair-item.is c.in_ok-add_first.ensures c.loop-pair.invariant

pub returns : goal.returns
returns c =
    firsts_all c.args.arena.now c.args.pairs.now c.loop-pair.pair-index c.loop-pair.members.keys
    c.loop-pair-test.false c.loop-pair.invariant
