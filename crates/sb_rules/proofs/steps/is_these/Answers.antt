use Rattle.sb_rules.proofs.Trying.{these_first, these_lack}
use Rattle.sb_rules.proofs.steps.is_these.Goals as goal

pub returns-then-are_among : goal.returns-then-are_among
returns-then-are_among c =
    these_first c.args.clause.now c.args.few.now c.are_among.result c.are_among-then-are_among.result
    c.are_among.ensures c.are_among-then-are_among.ensures c.if-are_among.true

pub returns-else-are_among : goal.returns-else-are_among
returns-else-are_among c =
    these_lack c.args.clause.now c.args.few.now c.are_among.result c.are_among.ensures c.if-are_among.false
