use Rattle.std.proofs.Common.{subst, sym}
use Rattle.sb_regex.proofs.Combining.{and_of_none, and_of_one, and_of_many}
use Rattle.sb_regex.specs.Numbered.{AllNumbers}
use Rattle.sb_regex.proofs.arena.Arena.and_of.Goals as goal

pub intern-requires-clause-normal : goal.intern-requires-clause-normal
intern-requires-clause-normal c =
    rw (and_of_many c.args.self.now c.args.ids.now c.in_ok-parts-in_default.parts.items c.in_default.len_at_least
    c.in_ok-parts-in_default.ensures.ok)
    (c.requires.normal)

pub returns-in-empty-clause-ok : goal.returns-in-empty-clause-ok
returns-in-empty-clause-ok c =
    rw (← and_of_none c.args.self.now c.args.ids.now c.in-empty.len_below) (c.anything.ensures.ok)

pub returns-in-len1-clause-ok : goal.returns-in-len1-clause-ok
returns-in-len1-clause-ok c =
    and_of_one c.args.self.now c.args.ids.now c.id-item.result c.requires.numbers c.in-len1.len_at_least
    c.in-len1.len_below c.id-item.is

pub returns-in_ok-parts-in_default-clause-ok : goal.returns-in_ok-parts-in_default-clause-ok
returns-in_ok-parts-in_default-clause-ok c =
    rw (← and_of_many c.args.self.now c.args.ids.now c.in_ok-parts-in_default.parts.items c.in_default.len_at_least
    c.in_ok-parts-in_default.ensures.ok)
    (c.intern.ensures.ok)

pub intern-requires-clause-parts : goal.intern-requires-clause-parts
intern-requires-clause-parts c =
    subst (AllNumbers c.args.self.now) (sym c.in_ok-parts-in_default.ensures.ok) c.requires.numbers
