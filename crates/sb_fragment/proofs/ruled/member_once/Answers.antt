use Rattle.std.proofs.Common.{arith}
use Rattle.sb_fragment.proofs.RuledFacts.{once_of_none, once_of_first}
use Rattle.sb_fragment.proofs.ruled.member_once.Goals as goal

pub returns-in_default : goal.returns-in_default
returns-in_default c = record {
  ok = once_of_none c.args.table.now c.args.arguments.now c.in_default.len_below;
  right = c.requires.right;
}

pub has_each_once-requires : goal.has_each_once-requires
has_each_once-requires c = record {
  number = omega (arith, c.term-item.is, c.requires.numbers 0 c.term-item.result c.in-len1-up.len_at_least);
  right = c.requires.right;
}

pub returns : goal.returns
returns c = record {
  ok = once_of_first c.args.table.now c.args.arguments.now c.term-item.result c.in_ok-once.once
      c.in-len1-up.len_at_least c.term-item.is c.in_ok-once.ensures.ok;
  right = c.in_ok-once.ensures.right;
}
