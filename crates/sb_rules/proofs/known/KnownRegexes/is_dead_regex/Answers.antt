use Rattle.std.proofs.Common.{◌∙◌}
use Rattle.sb_rules.proofs.DeadFacts.{dead-by-number}
use Rattle.sb_rules.proofs.known.KnownRegexes.is_dead_regex.Goals as goal

pub returns : goal.returns
returns c = λ kept.
    c.has_dead.ensures
    ∙ dead-by-number c.args.arena.now c.args.id c.order_tells_apart.ensures
    c.normal_regexes_each_once.ensures.distinct c.requires.id c.args.self.now kept c.requires.known
    c.each_is_kept_once.ensures
