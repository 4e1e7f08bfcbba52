use Rattle.std.proofs.Common.{take, ap, ◌∙◌}
use Rattle.sb_sorts.specs.NameTable.{kept_in}
use Rattle.sb_sorts.proofs.Kept.{made, left, fewer_names, names_taken, names_left}
use Rattle.sb_sorts.proofs.scope.Scope.leave.Goals as goal

pub invariant_of-self : goal.invariant_of-self
invariant_of-self c =
    fewer_names c.args.count c.self.inside.sorts.items c.self.inside.names.entries c.truncate.new.self.entries
    c.truncate.ensures.entries c.self.invariant

pub returns-then-not-self : goal.returns-then-not-self
returns-then-not-self c =
    let es = c.self.inside.names.entries in
    let global = c.self.inside.global in
    let fewer = names_taken c.args.count es c.truncate.new.self.entries c.truncate.ensures.entries in
    ap (made c.self.inside.sorts.items global)
    (fewer ∙ names_left global (kept_in es) (take c.args.count (kept_in es)) c.if-not-self.true)
    ∙ ap (left c.args.count) c.self.view_is
