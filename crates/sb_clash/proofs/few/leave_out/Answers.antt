use Rattle.sb_clash.proofs.Words.{◌∙◌, arith, subst, sym, CanBeAsked, IfOk-from_err, IsCore}
use Rattle.sb_clash.proofs.AskedFacts.{explores_both, explores_none}
use Rattle.sb_clash.proofs.FewerFacts.{core_left}
use Rattle.sb_clash.proofs.few.leave_out.Goals as goal

pub returns-in_err-left : goal.returns-in_err-left
returns-in_err-left c =
    let r = c.from_residual in
    record { few = IfOk-from_err r.result _ r.ensures.0; explores = explores_none c.requires.can.graph }

pub returns-then-len-gt-MOST_TRIED : goal.returns-then-len-gt-MOST_TRIED
returns-then-len-gt-MOST_TRIED c = record {
  few = subst (IsCore c.args.arena.now c.args.atoms.now c.args.literals.now) (sym c.in_ok-left.ensures.items)
      (record { fewer = λ l. omega arith; clash = c.requires.clash });
  explores = explores_none c.requires.can.graph;
}

pub loop-place-init : goal.loop-place-init
loop-place-init c =
    let is = sym c.in_ok-left.ensures.items in
    record {
      explores = explores_none c.requires.can.graph;
      can = subst (CanBeAsked c.args.arena.now c.args.graph.now c.args.atoms.now c.args.serial.0) is c.requires.can;
      few = subst (IsCore c.args.arena.now c.args.atoms.now c.args.literals.now) is
          (record { fewer = λ l. omega arith; clash = c.requires.clash });
    }

pub leaves_out-requires : goal.leaves_out-requires
leaves_out-requires c = record {
  place = omega (arith, c.loop-place-test.true, c.len-in-loop-place.ensures ∙ c.loop-place.left.ok.0);
  can = c.loop-place.invariant.can;
  clash = c.loop-place.invariant.few.clash;
}

pub loop-place-preserved-then-not-branch : goal.loop-place-preserved-then-not-branch
loop-place-preserved-then-not-branch c =
    let before = c.loop-place.invariant in
    let h = c.in_ok-leaves_out.ensures in
    record {
      explores = explores_both before.explores h.explores;
      can = h.ok.can;
      few = core_left h.ok before.few;
    }

pub loop-place-preserved : goal.loop-place-preserved
loop-place-preserved c =
    let before = c.loop-place.invariant in
    let h = c.in_ok-leaves_out.ensures in
    record {
      explores = explores_both before.explores h.explores;
      can = h.ok.can;
      few = core_left h.ok before.few;
    }

pub returns-in_err-leaves_out : goal.returns-in_err-leaves_out
returns-in_err-leaves_out c =
    let r = c.from_residual-in_err-leaves_out in
    let e = explores_both c.loop-place.invariant.explores c.in_err-leaves_out.ensures.explores in
    record { few = IfOk-from_err r.result _ r.ensures.0; explores = e }

pub returns : goal.returns
returns c = let h = c.loop-place.invariant in record { few = h.few; explores = h.explores }
