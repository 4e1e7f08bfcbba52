use Rattle.std.specs.HashSet.{contains}
use Rattle.sb_solve.proofs.Words.{false, cond, ap, ◌∙◌, Claim, are_equal, claim_of}
use Rattle.sb_solve.proofs.Claims.{taken_out}
use Rattle.sb_solve.proofs.denying.take.Goals as goal

pub returns : goal.returns
returns c =
    let has = contains are_equal c.args.claims.now in
    record {
      there = c.contains-there.ensures ∙ ap has c.claim_of-claim.ensures;
      left = λ a.
          c.remove.ensures.updates.0 (claim_of a)
          ∙ ap (λ (x : Claim). cond (are_equal x (claim_of a)) false (has (claim_of a))) c.claim_of-claim.ensures
          ∙ taken_out c.args.assumption a (has (claim_of a));
    }
