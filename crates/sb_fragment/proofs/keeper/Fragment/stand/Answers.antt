use Rattle.std.proofs.Common.{arith}
use Rattle.std.proofs.lemmas.Result.{IfOk-from_err}
use Rattle.sb_fragment.proofs.InsideFacts.{number_at, inside_more, all_inside}
use Rattle.sb_fragment.proofs.RuleFacts.{one_outside}
use Rattle.sb_fragment.proofs.keeper.Fragment.stand.Goals as goal

pub loop-self-init : goal.loop-self-init
loop-self-init c = (c.requires.known, c.requires.right, omega arith)

pub broken-requires : goal.broken-requires
broken-requires c = record {
  number = number_at _ c.args.live.now c.loop-self.self.inside c.index-live-self.result c.requires.numbers
      c.loop-self-test.true c.index-live-self.is;
  right = c.loop-self.invariant.1;
}

pub loop-self-preserved : goal.loop-self-preserved
loop-self-preserved c = (
  inside_more c.loop-self.self.inside c.args.table.now c.args.live.now c.index-live-self.result
      c.in_ok-reason.field-0 c.loop-self.invariant.0 c.loop-self-test.true c.requires.numbers c.index-live-self.is
      c.in_default.is c.in_ok-reason.ensures.ok,
  c.in_ok-reason.ensures.right,
  omega (arith, c.loop-self.invariant.2),
)

pub returns-in_err-reason : goal.returns-in_err-reason
returns-in_err-reason c = record {
  ok = IfOk-from_err c.from_residual.result _ c.from_residual.ensures.0;
  known = c.loop-self.invariant.0;
  more = c.loop-self.invariant.2;
  right = c.in_err-reason.ensures.right;
}

pub returns-in-Some : goal.returns-in-Some
returns-in-Some c = record {
  ok = one_outside c.args.table.now c.args.live.now c.loop-self.self.inside c.index-live-self.result
      c.in_ok-reason.field-0 c.in-Some.reason c.loop-self-test.true c.index-live-self.is c.in-Some.is
      c.in_ok-reason.ensures.ok;
  known = c.loop-self.invariant.0;
  more = c.loop-self.invariant.2;
  right = c.in_ok-reason.ensures.right;
}

pub returns : goal.returns
returns c = record {
  ok = all_inside c.loop-self.self.inside c.args.table.now c.args.live.now c.loop-self.invariant.0
      (omega (arith, c.loop-self-test.false));
  known = c.loop-self.invariant.0;
  more = c.loop-self.invariant.2;
  right = c.loop-self.invariant.1;
}
