use Rattle.sb_clash.proofs.Words.{◌+◌, arith, subst, sym, take, IfOk-from_err, IfOk-weaker, Names, extends_more, extends_same, mkand, regexes_at, regexes_kept}
use Rattle.sb_clash.proofs.AskedFacts.{IsAskedSofar, asked_met, asked_more}
use Rattle.sb_clash.proofs.asking.meet.Goals as goal

pub loop-literal-preserved : goal.loop-literal-preserved
loop-literal-preserved c = (
  extends_more c.args.arena.now c.loop-literal.arena c.asked_by.new.arena c.loop-literal.invariant.0
      c.in_ok-id.ensures.extends,
  regexes_kept c.loop-literal.arena c.asked_by.new.arena c.args.atoms.now c.in_ok-id.ensures.extends
      c.loop-literal.invariant.1,
  subst (IsAskedSofar c.asked_by.new.arena c.args.atoms.now
      (take (c.loop-literal.literal-index + 1) c.args.literals.now)) (sym c.in_ok-push.ensures.items)
      (asked_more c.loop-literal.arena c.asked_by.new.arena c.args.atoms.now c.args.serial.0 c.args.literals.now
      c.loop-literal.literal-index _ c.loop-literal.ids.items c.in_ok-id.id c.in_ok-id.ensures.extends
      c.loop-literal.invariant.1 c.requires.about c.loop-literal-test.true c.loop-literal.invariant.2
      c.in_ok-id.ensures.ok),
)

pub returns-in_err-ids : goal.returns-in_err-ids
returns-in_err-ids c =
    let x = c.from_residual in
    record {
      ok = IfOk-from_err x.result _ x.ensures.0;
      extends = extends_same c.args.arena.now;
    }

pub returns-in_err-id : goal.returns-in_err-id
returns-in_err-id c =
    let x = c.from_residual-in_err-id in
    record {
      ok = IfOk-from_err x.result _ x.ensures.0;
      extends = extends_more c.args.arena.now c.loop-literal.arena c.asked_by.new.arena c.loop-literal.invariant.0
          c.in_err-id.ensures.extends;
    }

pub returns-in_err-push : goal.returns-in_err-push
returns-in_err-push c =
    let x = c.from_residual-in_err-push in
    record {
      ok = IfOk-from_err x.result _ x.ensures.0;
      extends = extends_more c.args.arena.now c.loop-literal.arena c.asked_by.new.arena c.loop-literal.invariant.0
          c.in_ok-id.ensures.extends;
    }

pub returns : goal.returns
returns c = record {
  ok = IfOk-weaker c.and.result _ _
      (λ id names. asked_met c.loop-literal.arena c.and.new.self c.args.atoms.now c.args.serial.0 c.args.literals.now
      c.loop-literal.literal-index c.loop-literal.ids.items id (omega (arith, c.loop-literal-test.false))
      c.and.ensures.extends c.loop-literal.invariant.1 c.requires.about c.loop-literal.invariant.2
      (subst (λ is. Names c.and.new.self id (mkand (regexes_at c.loop-literal.arena is))) c.deref.ensures.value names))
      c.and.ensures.ok;
  extends = extends_more c.args.arena.now c.loop-literal.arena c.and.new.self c.loop-literal.invariant.0
      c.and.ensures.extends;
}
