use Rattle.std.proofs.Common.{◌^◌}
use Rattle.sb_word.proofs.NumeralLemmas.{digit_too_large}
use Rattle.sb_word.proofs.number.number_of.Goals as goal

pub returns-in_default : goal.returns-in_default
returns-in_default c =
    digit_too_large c.args.digits.now c.loop-digit.digit-index _ c.loop-digit.number (2 ^ 64) c.loop-digit-test.true
    c.loop-digit.invariant.0 c.in_default.ensures
