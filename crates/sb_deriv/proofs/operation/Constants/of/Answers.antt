use Rattle.std.proofs.lemmas.Result.{IfOk-from_err}
use Rattle.sb_deriv.proofs.Derivatives.{constants_of}
use Rattle.sb_regex.proofs.CallerLemmas.{extends_more}
use Rattle.sb_deriv.proofs.operation.Constants.of.Goals as goal

pub returns-clause-ok : goal.returns-clause-ok
returns-clause-ok c =
    constants_of c.none.new.self c.eps.new.self c.and.new.self _ c.in_ok-none.ensures.ok c.in_ok-eps.ensures.extends
    c.in_ok-eps.ensures.ok c.in_ok-everything.ensures.extends c.in_ok-everything.ensures.ok

pub returns-clause-extends : goal.returns-clause-extends
returns-clause-extends c =
    extends_more c.args.arena.now c.eps.new.self c.and.new.self
    (extends_more c.args.arena.now c.none.new.self c.eps.new.self c.none.ensures.extends c.eps.ensures.extends)
    c.and.ensures.extends

pub returns-in_err-none : goal.returns-in_err-none
returns-in_err-none c =
    let x = c.from_residual in
    record {
      ok = IfOk-from_err x.result _ x.ensures.0;
      extends = c.none.ensures.extends;
    }

pub returns-in_err-eps : goal.returns-in_err-eps
returns-in_err-eps c =
    let x = c.from_residual-in_err-eps in
    record {
      ok = IfOk-from_err x.result _ x.ensures.0;
      extends = extends_more c.args.arena.now c.none.new.self c.eps.new.self c.none.ensures.extends
          c.eps.ensures.extends;
    }

pub returns-in_err-everything : goal.returns-in_err-everything
returns-in_err-everything c =
    let x = c.from_residual-in_err-everything in
    record {
      ok = IfOk-from_err x.result _ x.ensures.0;
      extends = extends_more c.args.arena.now c.eps.new.self c.and.new.self
          (extends_more c.args.arena.now c.none.new.self c.eps.new.self c.none.ensures.extends c.eps.ensures.extends)
          c.and.ensures.extends;
    }
