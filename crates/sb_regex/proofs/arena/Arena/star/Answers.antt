use Rattle.std.proofs.Common.{ap, sym, ◌∙◌}
use Rattle.sb_regex.specs.Nodes.{node_regex}
use Rattle.sb_regex.proofs.CallerLemmas.{names_from}
use Rattle.sb_regex.proofs.Building.{normal_at, star_none, star_eps, star_star, star_full, star_set, star_other, normal_star}
use Rattle.sb_regex.proofs.arena.Arena.star.Goals as goal

pub intern-requires-clause-normal : goal.intern-requires-clause-normal
intern-requires-clause-normal c =
    let rs = c.args.self.now in
    let value = ap (node_regex rs) (sym c.in-Set.is) ∙ c.node.ensures.value in
    normal_star _ c.constructors_give_normal.ensures
    (normal_at rs c.args.a c.normal_regexes_each_once.ensures.normal c.requires)
    (star_set c.in-Set.ranges.items c.is_full.result _ value (rw (c.as_slice.ensures.value) at c.is_full.ensures)
    c.if-is_full.false)

pub intern-requires-in_default-clause-normal : goal.intern-requires-in_default-clause-normal
intern-requires-in_default-clause-normal c =
    let rs = c.args.self.now in
    normal_star _ c.constructors_give_normal.ensures
    (normal_at rs c.args.a c.normal_regexes_each_once.ensures.normal c.requires)
    (star_other rs _ _ c.node.ensures.value c.in_default.not-None c.in_default.not-Eps c.in_default.not-Set
    c.in_default.not-Star)

pub returns-in-Star-clause-ok : goal.returns-in-Star-clause-ok
returns-in-Star-clause-ok c =
    names_from c.args.self.now c.args.a _ c.requires (star_star c.args.self.now _ _ _ c.node.ensures.value c.in-Star.is)

pub returns-in-Eps-clause-ok : goal.returns-in-Eps-clause-ok
returns-in-Eps-clause-ok c =
    names_from c.args.self.now c.args.a _ c.requires (star_eps c.args.self.now _ _ c.node.ensures.value c.in-Eps.is)

pub returns-in-None-clause-ok : goal.returns-in-None-clause-ok
returns-in-None-clause-ok c =
    rw (← star_none c.args.self.now _ _ c.node.ensures.value c.in-None.is) (c.eps.ensures.ok)

pub returns-then-is_full-clause-ok : goal.returns-then-is_full-clause-ok
returns-then-is_full-clause-ok c =
    let value = ap (node_regex c.args.self.now) (sym c.in-Set.is) ∙ c.node.ensures.value in
    rw (← star_full c.in-Set.ranges.items c.is_full.result _ value (rw (c.as_slice.ensures.value) at c.is_full.ensures)
    c.if-is_full.true)
    (c.anything.ensures.ok)

pub returns-else-is_full-clause-ok : goal.returns-else-is_full-clause-ok
returns-else-is_full-clause-ok c =
    let value = ap (node_regex c.args.self.now) (sym c.in-Set.is) ∙ c.node.ensures.value in
    rw (← star_set c.in-Set.ranges.items c.is_full.result _ value (rw (c.as_slice.ensures.value) at c.is_full.ensures)
    c.if-is_full.false)
    (c.intern.ensures.ok)

pub returns-in_default-clause-ok : goal.returns-in_default-clause-ok
returns-in_default-clause-ok c =
    rw (← star_other c.args.self.now _ _ c.node.ensures.value c.in_default.not-None c.in_default.not-Eps
    c.in_default.not-Set c.in_default.not-Star)
    (c.intern-in_default.ensures.ok)
