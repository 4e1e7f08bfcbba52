use Rattle.std.proofs.Common.{[]}
use Rattle.std.proofs.lemmas.Result.{IfOk-weaker, IfOk-from_err}
use Rattle.sb_deriv.specs.Pieces.{value_from}
use Rattle.sb_deriv.proofs.Choosing.{halves}
use Rattle.sb_deriv.proofs.choices.+refine.Goals as goal

pub returns : goal.returns
returns t c =
    record {
      whole = c.merge.ensures.whole;
      values = IfOk-weaker c.merge.result _ _
          (λ cs v x l. halves c.args.constants.now c.args.operation.now c.args.maps.now c.split_at.result.0.now
          c.split_at.result.1.now _ x (value_from [] cs x) _ _ c.split_at.ensures.front c.split_at.ensures.back (v x)
          (c.in_ok-left.ensures.values x l) (c.in_ok-right.ensures.values x l)) c.merge.ensures.values;
    }

pub returns-in_err-left : goal.returns-in_err-left
returns-in_err-left t c =
    let x = c.from_residual in
    record {
      whole = IfOk-from_err x.result _ x.ensures.0;
      values = IfOk-from_err x.result _ x.ensures.0;
    }

pub returns-in_err-right : goal.returns-in_err-right
returns-in_err-right t c =
    let x = c.from_residual-in_err-right in
    record {
      whole = IfOk-from_err x.result _ x.ensures.0;
      values = IfOk-from_err x.result _ x.ensures.0;
    }

pub merge-requires : goal.merge-requires
merge-requires t c = record { left = c.in_ok-left.ensures.whole; right = c.in_ok-right.ensures.whole }
