use Rattle.sb_decide.proofs.Words.{refl, arith, ◌∙◌, IfOk-from_err, nat_tests}
use Rattle.sb_decide.proofs.Knowledge.{knows_left}
use Rattle.sb_decide.proofs.decide.Decider.leave.Goals as goal

pub loop-self-init : goal.loop-self-init
loop-self-init c = (λ stack k. k, refl)

pub loop-self-preserved : goal.loop-self-preserved
loop-self-preserved c =
    let before = c.loop-self.invariant in
    let back = c.in_ok-take_last_back.ensures in (
      λ stack k. back.knows stack (before.0 stack k),
      back.same ∙ before.1,
    )

pub returns-in_err-take_last_back : goal.returns-in_err-take_last_back
returns-in_err-take_last_back c =
    let x = c.from_residual in
    record {
      knows = IfOk-from_err x.result _ x.ensures.0;
      store = c.take_last_back.ensures.same ∙ c.loop-self.invariant.1;
    }

pub returns : goal.returns
returns c = record {
  knows = λ old new e longer few words declared k.
      knows_left c.normals_stay.ensures c.loop-self.self c.leave.new.self old new c.args.count e longer few
      (grind (arith, nat_tests, c.loop-self-test.false, c.len.ensures, c.loop-self.self.members.ok.0)) c.leave.ensures
      words declared (c.loop-self.invariant.0 old k);
  store = c.loop-self.invariant.1;
}
