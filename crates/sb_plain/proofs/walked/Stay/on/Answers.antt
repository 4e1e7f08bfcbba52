use Rattle.std.proofs.Common.{◌≡◌, arith}
use Rattle.std.proofs.lemmas.Bool.Decides.{nat_tests}
use Rattle.sb_plain.proofs.Staying.{stay_same, stay_moved}
use Rattle.sb_plain.proofs.walked.Stay.on.Goals as goal

pub returns-then-eq-clause-right : goal.returns-then-eq-clause-right
returns-then-eq-clause-right c = λ old new n codes l step stay.
    let is : c.args.rest ≡ c.args.self.rest = grind (arith, nat_tests, c.eq.ensures, c.if-eq.true) in
    stay_same old new n codes c.args.self c.args.to c.args.rest c.requires is l step stay

pub returns-clause-right : goal.returns-clause-right
returns-clause-right c = λ old new n codes l step stay.
    stay_moved old new n codes c.args.self c.args.to c.args.rest c.requires l step stay
