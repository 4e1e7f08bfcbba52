use Rattle.std.proofs.Common.{ap, false, sym}
use Rattle.sb_rules.specs.Known.{Known}
use Rattle.sb_rules.proofs.LookedUp.{at_none, at_some}
use Rattle.sb_rules.proofs.known.KnownRegexes.is_dead.Goals as goal

pub returns-in-None : goal.returns-in-None
returns-in-None c =
    sym (at_none c.deref.result.now c.self.inside.dead.items c.args.self.now.dead c.args.number false c.deref.ensures.value
    (ap (λ (k : Known). k.dead) c.self.view_is)
    c.in-None.ensures.lookup.3)

pub returns-in-Some : goal.returns-in-Some
returns-in-Some c =
    sym (at_some c.deref.result.now c.self.inside.dead.items c.args.self.now.dead c.args.number false c.deref.ensures.value
    (ap (λ (k : Known). k.dead) c.self.view_is)
    c.in-Some.dead.now c.in-Some.ensures.lookup.3.0 c.in-Some.ensures.lookup.1)
