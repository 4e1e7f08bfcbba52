use Rattle.sb_models.proofs.ValueFacts.{large_fails}
use Rattle.sb_models.proofs.words.codes_in.Goals as goal

pub returns-in_default : goal.returns-in_default
returns-in_default c =
    large_fails c.args.numbers.now c.loop-number.number-index 0 c.loop-number-test.true c.in_default.ensures
