use Rattle.sb_theory.proofs.Words.{◌∙◌, arith, refl, IfOk-from_err}
use Rattle.sb_theory.proofs.Moving.{keeps_both, keeps_none}
use Rattle.sb_theory.proofs.Standing.{taken_whole}
use Rattle.sb_theory.proofs.strings.Strings.take_in.Goals as goal

pub loop-self-init : goal.loop-self-init
loop-self-init c = record { stands = c.requires; noted = refl; keeps = keeps_none c.requires.holds }

pub loop-self-preserved : goal.loop-self-preserved
loop-self-preserved c =
    let before = c.loop-self.invariant in
    let h = c.in_ok-take_next.ensures in
    record { stands = h.ok.0; noted = h.noted ∙ before.noted; keeps = keeps_both before.keeps h.keeps }

pub returns-in_err-take_next : goal.returns-in_err-take_next
returns-in_err-take_next c =
    let r = c.from_residual in
    record {
      ok = IfOk-from_err r.result _ r.ensures.0;
      noted = c.in_err-take_next.ensures.noted ∙ c.loop-self.invariant.noted;
      keeps = keeps_both c.loop-self.invariant.keeps c.in_err-take_next.ensures.keeps;
    }

pub returns : goal.returns
returns c = record {
  ok = (
    c.loop-self.invariant.stands,
    taken_whole c.loop-self.self c.args.trail.now.literals c.loop-self.invariant.stands
        (omega (
          arith,
          c.loop-self-test.false,
          c.len-in-loop-self.ensures.len,
          c.len.ensures ∙ c.loop-self.self.taken.ok.0,
        )),
  );
  noted = c.loop-self.invariant.noted;
  keeps = c.loop-self.invariant.keeps;
}
