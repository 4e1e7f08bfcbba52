use Rattle.std.proofs.Common.{ap, ◌∙◌, Some, List}
use Rattle.sb_lit.specs.declared.clause.Lit.{Lit}
use Rattle.sb_hints.proofs.Storage.{within_there, literals_there, nothing_there, nothing_past}
use Rattle.sb_hints.proofs.clauses.KeptClauses.clause.Goals as goal

pub literals_of-requires : goal.literals_of-requires
literals_of-requires c =
    let at = rw c.deref.ensures.value at c.in-Some.ensures.lookup.3 in
    rw c.deref-then-row.ensures.value
    (within_there c.self.inside.literals.items c.self.inside.rows.items _ c.args.id c.in-Some.row.now c.self.view_is
    at.0 at.1 c.self.invariant.stored.within c.if-row.true)

pub returns-then-row : goal.returns-then-row
returns-then-row c =
    let at = rw c.deref.ensures.value at c.in-Some.ensures.lookup.3 in
    let literals = rw c.deref-then-row.ensures.value at c.literals_of.ensures in
    ap (λ (ls : List Lit). Some ls) literals
    ∙ literals_there c.self.inside.literals.items c.self.inside.rows.items _ c.args.id c.in-Some.row.now c.self.view_is
    at.0 at.1 c.if-row.true

pub returns-else-row : goal.returns-else-row
returns-else-row c =
    let at = rw c.deref.ensures.value at c.in-Some.ensures.lookup.3 in
    nothing_there c.self.inside.literals.items c.self.inside.rows.items _ c.args.id c.in-Some.row.now c.self.view_is
    at.0 at.1 c.if-row.false

pub returns-in-None : goal.returns-in-None
returns-in-None c =
    nothing_past c.self.inside.literals.items c.self.inside.rows.items _ c.args.id c.self.view_is
    (rw c.deref.ensures.value at c.in-None.ensures.lookup.3)
