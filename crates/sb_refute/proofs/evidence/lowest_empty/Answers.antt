use Rattle.sb_refute.proofs.Words.{◌+◌, take, sym, subst, arith, take_all, Kept, IsLowestEmpty}
use Rattle.sb_refute.proofs.Lowest.{lowest-next}
use Rattle.sb_refute.proofs.evidence.lowest_empty.Goals as goal

pub loop-number-preserved : goal.loop-number-preserved
loop-number-preserved c =
    subst (IsLowestEmpty (take (c.loop-number.number + 1) c.args.clauses.now)) (sym c.lower-lowest.ensures)
    (lowest-next c.args.clauses.now c.loop-number.number c.loop-number.lowest c.empty_clause.result
    (omega (arith, c.loop-number-test.true, c.len.ensures)) c.loop-number.invariant c.empty_clause.ensures)

pub returns : goal.returns
returns c =
    subst (λ (k : Kept). IsLowestEmpty k c.loop-number.lowest)
    (take_all c.loop-number.number c.args.clauses.now (omega (arith, c.loop-number-test.false, c.len.ensures)))
    c.loop-number.invariant
