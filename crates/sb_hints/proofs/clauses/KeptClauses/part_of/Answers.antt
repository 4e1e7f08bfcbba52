use Rattle.std.proofs.Common.{Some, None, true, false}
use Rattle.std.specs.HashSet.{contains}
use Rattle.sb_hints.specs.Listing.{are_equal}
use Rattle.sb_hints.proofs.Upkeep.{all_below, repeats_bare, repeats_under, part_is}
use Rattle.sb_hints.proofs.clauses.KeptClauses.part_of.Goals as goal

pub find_part-requires-clause-below : goal.find_part-requires-clause-below
find_part-requires-clause-below c = rw c.deref.ensures.value (all_below _ _ _ c.self.invariant.stored None)

pub find_part_under-requires-clause-below : goal.find_part_under-requires-clause-below
find_part_under-requires-clause-below c = λ l.
    rw c.deref-3.ensures.value (all_below _ _ _ c.self.invariant.stored (Some l))

pub returns-in-Some-clause-found : goal.returns-in-Some-clause-found
returns-in-Some-clause-found c =
    let found = rw (c.deref.ensures.value, c.deref-2.ensures.value) at c.in-Some.ensures.found in
    repeats_bare c.self.inside.literals.items c.self.inside.rows.items c.self.inside.lists c.self.inside.bare
    c.args.self.now c.args.clause.now (contains are_equal c.in_ok-all.all) c.self.view_is c.self.invariant.stored
    c.in_ok-all.ensures found

pub returns-in-Some-clause-part : goal.returns-in-Some-clause-part
returns-in-Some-clause-part c =
    let passes = rw (c.deref.ensures.value, c.deref-2.ensures.value) at c.in-Some.ensures.passes in
    part_is c.self.inside.literals.items c.self.inside.rows.items c.self.inside.lists c.self.inside.bare
    c.args.self.now c.args.clause.now (contains are_equal c.in_ok-all.all) c.self.view_is c.self.invariant.stored
    c.in_ok-all.ensures c.in-Some.number passes

pub returns-in-Some-find_part_under-clause-found : goal.returns-in-Some-find_part_under-clause-found
returns-in-Some-find_part_under-clause-found c =
    let none = rw (c.deref.ensures.value, c.deref-2.ensures.value) at c.in_default.ensures.found in
    let is = rw (c.deref-3.ensures.value, c.deref-4.ensures.value) at c.in-Some-find_part_under.ensures.found in
    repeats_under c.self.inside.literals.items c.self.inside.rows.items c.self.inside.lists c.self.inside.bare
    c.args.self.now c.args.clause.now (contains are_equal c.in_ok-all.all) c.self.view_is c.self.invariant.stored
    c.in_ok-all.ensures none true is

pub returns-clause-found : goal.returns-clause-found
returns-clause-found c =
    let none = rw (c.deref.ensures.value, c.deref-2.ensures.value) at c.in_default.ensures.found in
    let is = rw (c.deref-3.ensures.value, c.deref-4.ensures.value) at c.in-None.ensures.found in
    repeats_under c.self.inside.literals.items c.self.inside.rows.items c.self.inside.lists c.self.inside.bare
    c.args.self.now c.args.clause.now (contains are_equal c.in_ok-all.all) c.self.view_is c.self.invariant.stored
    c.in_ok-all.ensures none false is
