use Rattle.std.proofs.Common.{sym, ◌∙◌}
use Rattle.sb_clauses.proofs.AllDropped.{empty_fewer}
use Rattle.sb_clauses.specs.Records.{kept_of}
use Rattle.sb_clauses.proofs.clauses.drop_records_above.Goals as goal

pub returns-clause-empty : goal.returns-clause-empty
returns-clause-empty c = λ place h.
    let turn = c.loop-test.ensures.turn in
    empty_fewer place c.args.level (kept_of c.args.records.now) _ (turn.1 ∙ (sym turn.0 ∙ c.loop.invariant.1)) h

pub returns-clause-scoped : goal.returns-clause-scoped
returns-clause-scoped c =
    let turn = c.loop-test.ensures.turn in
    rw (turn.1, turn.2) c.loop.invariant.0

pub loop-preserved : goal.loop-preserved
loop-preserved c = (
  c.loop-test.ensures.turn.stays,
  c.loop-test.ensures.turn.same ∙ c.loop.invariant.1,
  c.loop-test.ensures.found,
)
