use Rattle.std.proofs.Common.{◌<◌, length, ◌∙◌, sym, arith}
use Rattle.std.proofs.lemmas.Bool.{eqb-true}
use Rattle.std.proofs.lemmas.Bool.Decides.{nat_tests}
use Rattle.sb_class.proofs.RangeFacts.{IsEmptySet-nil, first_is_least}
use Rattle.sb_class.proofs.range_list.least.Goals as goal

pub returns-then-is_empty : goal.returns-then-is_empty
returns-then-is_empty c = IsEmptySet-nil c.args.ranges.now (eqb-true _ _ (sym c.is_empty.ensures ∙ c.if-is_empty.true))

pub returns-else-is_empty : goal.returns-else-is_empty
returns-else-is_empty c =
    let some : 0 < length c.args.ranges.now = grind (arith, nat_tests) in
    first_is_least c.args.ranges.now c.requires some
