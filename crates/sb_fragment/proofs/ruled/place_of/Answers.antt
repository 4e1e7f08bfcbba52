use Rattle.sb_fragment.proofs.RuledFacts.{placed_at}
use Rattle.sb_fragment.proofs.ruled.place_of.Goals as goal

pub returns-in-Equal : goal.returns-in-Equal
returns-in-Equal c =
    placed_at c.args.table.now c.term.result.now c.in-Apply.symbol c.in-Apply.arguments c.args.id
    c.as_slice.result.now c.place_compared.result c.term.ensures.value c.in-Apply.is c.as_slice.ensures
    (rw c.in-Equal.is c.place_compared.ensures)

pub returns-in-Distinct : goal.returns-in-Distinct
returns-in-Distinct c =
    placed_at c.args.table.now c.term.result.now c.in-Apply.symbol c.in-Apply.arguments c.args.id
    c.as_slice-in-Distinct.result.now c.place_compared-in-Distinct.result c.term.ensures.value c.in-Apply.is
    c.as_slice-in-Distinct.ensures (rw c.in-Distinct.is c.place_compared-in-Distinct.ensures)
