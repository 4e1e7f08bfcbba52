use Rattle.sb_solve.proofs.Words.{IfOk-from_err}
use Rattle.sb_solve.proofs.Modelling.{true_under}
use Rattle.sb_solve.proofs.model.model.Goals as goal

pub returns : goal.returns
returns c =
    record {
      given = λ rs places literals assumed kept a.
          true_under rs c.args.atoms.now c.args.wanted.now literals assumed kept c.args.trail.now.literals
          c.args.words.items places c.args.stack.now c.live.ensures a c.one_value.ensures c.requires
          (rw c.deref.ensures.value at c.read.ensures) c.in_ok-truths.truths.items c.in_ok-truths.ensures
          c.translation_holds.ensures;
      characters = rw c.deref.ensures.value at c.read.ensures;
    }

pub returns-in_err-truths : goal.returns-in_err-truths
returns-in_err-truths c =
    let x = c.from_residual in
    record { given = IfOk-from_err x.result _ x.ensures.0; characters = IfOk-from_err x.result _ x.ensures.0 }
