use Rattle.std.proofs.Common.{arith}
use Rattle.sb_regex.proofs.Building.{stays_none, stays_not, stays_other}
use Rattle.sb_regex.proofs.arena.Arena.stays.Goals as goal

pub is_none-requires : goal.is_none-requires
is_none-requires c =
    let parts = rw (c.in-Not.is) at c.node.ensures.parts in
    let l = parts 0 0 (omega arith) in
    omega (arith, l, c.requires)

pub returns-in-None : goal.returns-in-None
returns-in-None c = stays_none c.args.self.now _ _ c.node.ensures.value c.in-None.is

pub returns-in-Not : goal.returns-in-Not
returns-in-Not c = stays_not c.args.self.now _ _ c.in-Not.b _ c.node.ensures.value c.in-Not.is c.is_none.ensures

pub returns-in_default : goal.returns-in_default
returns-in_default c =
    stays_other c.args.self.now _ _ c.node.ensures.value c.in_default.not-None c.in_default.not-Not
