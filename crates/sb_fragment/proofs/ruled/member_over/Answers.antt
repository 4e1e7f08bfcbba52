use Rattle.std.proofs.Common.{arith}
use Rattle.sb_fragment.proofs.RuledFacts.{over_of_others, over_of_two}
use Rattle.sb_fragment.proofs.ruled.member_over.Goals as goal

pub returns-in_default : goal.returns-in_default
returns-in_default c = record {
  ok = over_of_others c.args.table.now c.args.arguments.now (λ two. omega (arith, two, c.in_default.len_below));
  right = c.requires.right;
}

pub returns-in_default-2 : goal.returns-in_default-2
returns-in_default-2 c = record {
  ok = over_of_others c.args.table.now c.args.arguments.now (λ two. omega (arith, two, c.in_default.len_at_least));
  right = c.requires.right;
}

pub measure-requires : goal.measure-requires
measure-requires c = record {
  number = omega (arith, c.regex-item.is, c.requires.numbers 1 c.regex-item.result (omega arith));
  right = c.requires.right;
}

pub returns : goal.returns
returns c = record {
  ok = over_of_two c.args.table.now c.args.arguments.now c.regex-item.result c.in_ok-measure.measure.is_ground
      (omega arith) (omega arith) c.regex-item.is c.in_ok-measure.ensures.ok.constants;
  right = c.in_ok-measure.ensures.right;
}
