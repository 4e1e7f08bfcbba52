use Rattle.std.proofs.Common.{arith}
use Rattle.sb_regex.proofs.CallerLemmas.{names_from}
use Rattle.sb_regex.proofs.Building.{normal_at, not_not, not_other, normal_not}
use Rattle.sb_regex.proofs.arena.Arena.not.Goals as goal

pub intern-requires-clause-normal : goal.intern-requires-clause-normal
intern-requires-clause-normal c =
    let rs = c.args.self.now in
    normal_not _ c.constructors_give_normal.ensures
    (normal_at rs c.args.a c.normal_regexes_each_once.ensures.normal c.requires)
    (not_other rs _ _ c.node.ensures.value c.in_default.not-Not)

pub returns-in-Not-clause-ok : goal.returns-in-Not-clause-ok
returns-in-Not-clause-ok c =
    let parts = rw (c.in-Not.is) at c.node.ensures.parts in
    let l = parts 0 0 (omega arith) in
    names_from c.args.self.now c.in-Not.b _ (omega (arith, l, c.requires))
    (not_not c.args.self.now _ _ c.in-Not.b c.node.ensures.value c.in-Not.is)

pub returns-in_default-clause-ok : goal.returns-in_default-clause-ok
returns-in_default-clause-ok c =
    rw (← not_other c.args.self.now _ _ c.node.ensures.value c.in_default.not-Not) (c.intern.ensures.ok)
