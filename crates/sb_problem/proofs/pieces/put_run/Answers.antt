use Rattle.std.proofs.Common.{◌∙◌}
use Rattle.sb_problem.proofs.Takings.{run_none, run_put, run_stays}
use Rattle.sb_problem.proofs.pieces.put_run.Goals as goal

pub returns-then-is_empty : goal.returns-then-is_empty
returns-then-is_empty c =
    let none = run_none c.args.run.now c.is_empty.result c.is_empty.ensures c.if-is_empty.true in
    record { parts = run_stays c.args.parts.now.items c.args.run.now.items none; run = none }

pub returns : goal.returns
returns c = record {
  parts = run_put c.args.parts.now.items c.push.new.self.items c.args.run.now c.in_ok-word.word
      (c.in_ok-word.ensures.items ∙ c.deref.ensures.value) c.is_empty.result c.is_empty.ensures c.if-is_empty.false c.in_ok-push.ensures.items;
  run = c.clear.ensures.items;
}
