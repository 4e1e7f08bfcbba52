use Rattle.sb_sorts.proofs.Numbers.{digit_too_large}
use Rattle.sb_sorts.proofs.numeral.number_up_to.Goals as goal

pub returns-in_default : goal.returns-in_default
returns-in_default c =
    digit_too_large c.args.digits.now c.loop-digit.digit-index _ c.loop-digit.number c.args.limit c.loop-digit-test.true
    c.loop-digit.invariant.0 c.in_default.ensures
