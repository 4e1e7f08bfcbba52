use Rattle.std.proofs.Common.{None, is_some, sym, ap, ◌∙◌}
use Rattle.sb_rules.specs.Known.{Known}
use Rattle.sb_rules.proofs.LookedUp.{at_none, at_some}
use Rattle.sb_rules.proofs.known.KnownRegexes.is_expanded.Goals as goal

pub returns-in-None : goal.returns-in-None
returns-in-None c =
    sym (ap is_some (at_none c.deref.result.now c.self.inside.expansions.items c.args.self.now.expansions c.args.number None c.deref.ensures.value
    (ap (λ (k : Known). k.expansions) c.self.view_is)
    c.in-None.ensures.lookup.3))

pub returns-in-Some : goal.returns-in-Some
returns-in-Some c =
    c.is_some.ensures
    ∙ sym (ap is_some (at_some c.deref.result.now c.self.inside.expansions.items c.args.self.now.expansions c.args.number None c.deref.ensures.value
    (ap (λ (k : Known). k.expansions) c.self.view_is)
    c.in-Some.targets.now c.in-Some.ensures.lookup.3.0 c.in-Some.ensures.lookup.1))
