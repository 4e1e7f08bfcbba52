use Rattle.sb_clash.proofs.Words.{subst, IfOk-from_err, IsCore, IfSome}
use Rattle.sb_clash.proofs.AskedFacts.{can_later, clash_later, explores_both}
use Rattle.sb_clash.proofs.few.core.Goals as goal

pub returns-in_err-found : goal.returns-in_err-found
returns-in_err-found c =
    let r = c.from_residual in
    record { few = IfOk-from_err r.result _ r.ensures.0; explores = c.in_err-found.ensures.explores }

pub returns-in-Some : goal.returns-in-Some
returns-in-Some c =
    let found = c.in_ok-found.ensures in
    record {
      few = subst (λ o. IfSome o
          (λ few. IsCore c.pair_with_last.new.arena c.args.atoms.now c.args.literals.now few.items)) c.in-Some.is found.few;
      explores = found.explores;
    }

pub leave_out-requires : goal.leave_out-requires
leave_out-requires c =
    let e = c.in_ok-found.ensures.explores in
    record { can = can_later e c.requires.can; clash = clash_later e c.requires.can c.requires.clash }

pub returns-in-None : goal.returns-in-None
returns-in-None c =
    let left = c.leave_out.ensures in
    record { few = left.few; explores = explores_both c.in_ok-found.ensures.explores left.explores }
