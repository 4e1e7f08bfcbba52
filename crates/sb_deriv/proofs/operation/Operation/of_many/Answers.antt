use Rattle.sb_deriv.proofs.Operations.{made_alt, made_and, made_not_nil, made_cat_nil, made_path_nil, made_not, made_cat, made_path}
use Rattle.std.proofs.Common.{arith}
use Rattle.sb_deriv.proofs.operation.Operation.of_many.Goals as goal

pub returns-in-Alt-clause-ok : goal.returns-in-Alt-clause-ok
returns-in-Alt-clause-ok c = rw (made_alt c.args.arena.now c.args.self.now _ c.in-Alt.is) at c.alt.ensures.ok

pub returns-in-And-clause-ok : goal.returns-in-And-clause-ok
returns-in-And-clause-ok c = rw (made_and c.args.arena.now c.args.self.now _ c.in-And.is) at c.and.ensures.ok

pub returns-in-empty-clause-ok : goal.returns-in-empty-clause-ok
returns-in-empty-clause-ok c =
    rw (made_not_nil c.args.arena.now c.args.self.now c.args.ids.now c.in-Not.is (omega arith)) at c.none.ensures.ok

pub returns-in-len1-up-clause-ok : goal.returns-in-len1-up-clause-ok
returns-in-len1-up-clause-ok c =
    rw (made_not c.args.arena.now c.args.self.now c.args.ids.now _ c.in-Not.is (omega arith) c.a-item.is) at
    c.not.ensures.ok

pub returns-in-empty-ids-clause-ok : goal.returns-in-empty-ids-clause-ok
returns-in-empty-ids-clause-ok c =
    rw (made_cat_nil c.args.arena.now c.args.self.now _ c.args.ids.now c.in-Cat.is (omega arith)) at
    c.none-in-empty-ids.ensures.ok

pub returns-in-len1-up-ids-clause-ok : goal.returns-in-len1-up-ids-clause-ok
returns-in-len1-up-ids-clause-ok c =
    rw (made_cat c.args.arena.now c.args.self.now _ c.args.ids.now _ c.in-Cat.is (omega arith) c.a-item-in-Cat.is) at
    c.cat.ensures.ok

pub returns-in-empty-ids-2-clause-ok : goal.returns-in-empty-ids-2-clause-ok
returns-in-empty-ids-2-clause-ok c =
    rw (made_path_nil c.args.arena.now c.args.self.now _ c.args.ids.now c.in-Path.is (omega arith)) at
    c.none-in-empty-ids-2.ensures.ok

pub returns-in-len1-up-ids-2-clause-ok : goal.returns-in-len1-up-ids-2-clause-ok
returns-in-len1-up-ids-2-clause-ok c =
    rw (made_path c.args.arena.now c.args.self.now _ c.args.ids.now _ c.in-Path.is (omega arith) c.a-item-in-Path.is) at
    c.path.ensures.ok
