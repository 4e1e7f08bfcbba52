use Rattle.std.proofs.Common.{sym, ◌∙◌, arith}
use Rattle.sb_clauses.proofs.Literals.{other_by_eq}
use Rattle.sb_clauses.proofs.Waiting.{both_late}
use Rattle.std.proofs.lemmas.Grind.{common_steps}
use Rattle.sb_clauses.proofs.place.forget_late.Goals as goal

pub returns-clause-late : goal.returns-clause-late
returns-clause-late c =
    both_late c.args.trail.now.literals c.forget_from.new.marks.items c.forget_from-2.new.marks.items
    c.args.own c.args.other c.rank.result c.rank-2.result c.rank.ensures.distinct
    c.forget_from-2.ensures.front c.forget_from.ensures.below c.forget_from-2.ensures.below c.rank.ensures.rank
    c.rank-2.ensures.rank
    (other_by_eq c.args.own c.args.other (sym c.eq.ensures ∙ c.if-eq.false))

pub returns-clause-front : goal.returns-clause-front
returns-clause-front c = grind (arith, common_steps)

pub forget_from-requires-2 : goal.forget_from-requires-2
forget_from-requires-2 c = c.forget_from.ensures.ascending

pub returns-clause-ascending : goal.returns-clause-ascending
returns-clause-ascending c = c.forget_from-2.ensures.ascending
