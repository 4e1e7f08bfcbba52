use Rattle.std.specs.List.{list_all}
use Rattle.std.proofs.Common.{None, sym, ap, ◌∙◌}
use Rattle.sb_rules.specs.Known.{Known}
use Rattle.sb_rules.proofs.LookedUp.{at_none, at_some}
use Rattle.sb_rules.specs.Burying.{is_settled_by, are_settled_by}
use Rattle.sb_rules.proofs.known.KnownRegexes.is_closed.Goals as goal

pub returns-in-None : goal.returns-in-None
returns-in-None c =
    sym (ap (are_settled_by c.args.self.now.dead c.args.members.now.keys)
    (at_none c.deref.result.now c.self.inside.expansions.items c.args.self.now.expansions c.args.number None c.deref.ensures.value
    (ap (λ (k : Known). k.expansions) c.self.view_is)
    c.in-None.ensures.lookup.3))

pub returns-in-Some-None : goal.returns-in-Some-None
returns-in-Some-None c =
    sym (ap (are_settled_by c.args.self.now.dead c.args.members.now.keys)
    (at_some c.deref.result.now c.self.inside.expansions.items c.args.self.now.expansions c.args.number None c.deref.ensures.value
    (ap (λ (k : Known). k.expansions) c.self.view_is)
    c.in-Some-None.field-0.now c.in-Some-None.ensures.lookup.3.0 c.in-Some-None.ensures.lookup.1
    ∙ c.in-Some-None.field-0-is))

pub returns-in-Some-Some : goal.returns-in-Some-Some
returns-in-Some-Some c =
    c.are_settled.ensures
    ∙ ap (list_all (is_settled_by c.args.self.now.dead c.args.members.now.keys))
    (c.deref-in-Some-Some.ensures.value ∙ c.targets.view_is)
    ∙ sym (ap (are_settled_by c.args.self.now.dead c.args.members.now.keys)
    (at_some c.deref.result.now c.self.inside.expansions.items c.args.self.now.expansions c.args.number None c.deref.ensures.value
    (ap (λ (k : Known). k.expansions) c.self.view_is)
    c.in-Some-Some.field-0.now c.in-Some-Some.ensures.lookup.3.0 c.in-Some-Some.ensures.lookup.1
    ∙ c.in-Some-Some.field-0-is))
