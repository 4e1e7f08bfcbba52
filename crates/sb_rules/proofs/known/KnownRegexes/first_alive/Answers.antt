use Rattle.std.proofs.Common.{length}
use Rattle.sb_rules.proofs.Loops.{number-within}
use Rattle.sb_rules.proofs.known.KnownRegexes.first_alive.Goals as goal

pub alive-alive-requires-clause-number : goal.alive-alive-requires-clause-number
alive-alive-requires-clause-number c =
    number-within c.args.numbers.now (length c.args.self.now.order) c.loop-number.number-index c.requires.numbers
    c.loop-number-test.true
