use Rattle.std.specs.HashSet.{contains}
use Rattle.std.specs.Prelude.{◌||◌}
use Rattle.sb_solve.proofs.Words.{Option, IfSome, ap, subst, ◌∙◌, on_ok_weaker, Names, are_equal, bool_atom, claim_of}
use Rattle.sb_term.specs.declared.term.Serial.{Serial}
use Rattle.sb_solve.proofs.Claims.{denies_there, nothing_denied}
use Rattle.sb_solve.proofs.denying.deny.Goals as goal

pub returns-in-Some : goal.returns-in-Some
returns-in-Some c =
    let names = subst (λ (o : Option Serial). IfSome o
    (λ found. Names c.args.atoms.now c.args.literal.atom (bool_atom found.0))) c.in-Some.is
    c.constant_at.ensures.some in
    on_ok_weaker c.put.result
    (λ put rs a. put a
    ∙ ap (λ b. contains are_equal c.args.claims.now (claim_of a) || b)
    (denies_there rs c.args.atoms.now c.args.literal c.in-Some.serial.0 a names)) c.put.ensures

pub returns-in-None : goal.returns-in-None
returns-in-None c = λ rs a.
    nothing_denied rs c.args.atoms.now c.args.literal a (contains are_equal c.args.claims.now (claim_of a))
    (rw c.in-None.is at c.constant_at.ensures.none)
