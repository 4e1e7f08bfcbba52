use Rattle.std.proofs.Common.{ap, ◌∙◌, arith, []}
use Rattle.sb_class.specs.Ranges.{rises_from, in_ranges}
use Rattle.sb_class.proofs.RangeFacts.{rises_from-nil, rises_from-join, in_ranges-one}
use Rattle.sb_class.proofs.Class.range.Goals as goal

pub invariant_of-result : goal.invariant_of-result
invariant_of-result c =
    ap (rises_from 0) c.in_ok-ranges.ensures.items
    ∙ rises_from-join 0 (c.args.lo, c.args.hi) [] (omega arith) c.requires.ordered c.requires.characters
    (rises_from-nil _)

pub returns : goal.returns
returns c = λ x. ap (λ l. in_ranges l x) c.in_ok-ranges.ensures.items ∙ in_ranges-one (c.args.lo, c.args.hi) x
