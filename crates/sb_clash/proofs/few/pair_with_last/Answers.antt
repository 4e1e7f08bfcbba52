use Rattle.sb_clash.proofs.Words.{arith, subst, sym, IfOk-from_err, IsCore}
use Rattle.sb_clash.proofs.AskedFacts.{can_later, explores_both, explores_none}
use Rattle.sb_clash.proofs.FewerFacts.{pair_can, pair_fewer}
use Rattle.sb_clash.proofs.few.pair_with_last.Goals as goal

pub returns-in_default : goal.returns-in_default
returns-in_default c = record { few = tt; explores = explores_none c.requires.graph }

pub loop-place-init : goal.loop-place-init
loop-place-init c = explores_none c.requires.graph

pub clash-requires : goal.clash-requires
clash-requires c =
    can_later c.loop-place.invariant
    (pair_can c.args.literals.now c.loop-place.place c.in-Some.last _ _ c.loop-place-test.true
    (omega (arith, c.in-Some.ensures.0, c.in-Some.ensures.1)) c.requires)

pub loop-place-preserved : goal.loop-place-preserved
loop-place-preserved c = explores_both c.loop-place.invariant c.in_ok-clash.ensures.explores

pub returns-in_err-clash : goal.returns-in_err-clash
returns-in_err-clash c =
    let r = c.from_residual in
    let e = explores_both c.loop-place.invariant c.in_err-clash.ensures.explores in
    record { few = IfOk-from_err r.result _ r.ensures.0; explores = e }

pub returns-in_err-from_slice : goal.returns-in_err-from_slice
returns-in_err-from_slice c =
    let r = c.from_residual-in_err-from_slice in
    let e = explores_both c.loop-place.invariant c.in_ok-clash.ensures.explores in
    record { few = IfOk-from_err r.result _ r.ensures.0; explores = e }

pub returns-then-branch : goal.returns-then-branch
returns-then-branch c =
    let clash = c.in_ok-clash.ensures in
    record {
      few = subst (IsCore c.clash.new.arena c.args.atoms.now c.args.literals.now) (sym c.in_ok-from_slice.ensures.items)
          (record {
            fewer = pair_fewer c.args.literals.now c.loop-place.place c.in-Some.last _ _ c.loop-place-test.true
                (omega (arith, c.in-Some.ensures.0, c.in-Some.ensures.1));
            clash = clash.clash c.if-branch.true;
          });
      explores = explores_both c.loop-place.invariant clash.explores;
    }
