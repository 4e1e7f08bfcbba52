use Rattle.std.proofs.Common.{length, ap, ◌∙◌}
use Rattle.sb_rules.proofs.Loops.{marked-long}
use Rattle.sb_rules.proofs.known.KnownRegexes.mark.Goals as goal

pub invariant_of-self : goal.invariant_of-self
invariant_of-self c =
    (c.self.invariant.0, ap length c.mark.ensures ∙ marked-long c.args.numbers.now _ ∙ c.self.invariant.1)
