use Rattle.sb_search.proofs.Due.{from_end, from_level}
use Rattle.sb_search.proofs.lemma.false_from.Goals as goal

pub returns-then-is_true : goal.returns-then-is_true
returns-then-is_true c =
    from_level c.args.trail.now.literals c.args.literal c.negated.result c.level_of.result c.is_true.result
    c.negated.ensures c.is_true.ensures c.if-is_true.true c.level_of.ensures

pub returns-else-is_true : goal.returns-else-is_true
returns-else-is_true c =
    from_end c.args.trail.now.literals c.args.literal c.negated.result c.len.result c.is_true.result c.negated.ensures
    c.is_true.ensures c.if-is_true.false c.len.ensures.len
