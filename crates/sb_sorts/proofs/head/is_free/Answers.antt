use Rattle.std.proofs.Common.{◌&&◌, not, is_none, Bor, refl, ap, sym, ◌∙◌}
use Rattle.sb_script.specs.Scopes.{named}
use Rattle.sb_sorts.specs.declared.scope.Named.{Named}
use Rattle.sb_sorts.specs.Scopes.{named_in, names_in}
use Rattle.sb_sorts.proofs.Staying.{none_at, free_behind}
use Rattle.sb_sorts.proofs.head.is_free.Goals as goal

pub returns-then-is_none : goal.returns-then-is_none
returns-then-is_none c = λ ts.
    free_behind (λ (n : Bor Named). named_in ts n.now) c.is_none-then-is_none.result _ c.get.result c.look_up.result
    (none_at ts c.args.locals.now c.args.scope.now c.args.name.now c.get.result _ c.get.ensures
    (c.look_up.ensures.value ts)) (ap not c.if-is_none.ensures) c.is_none-then-is_none.ensures

pub returns-else-is_none : goal.returns-else-is_none
returns-else-is_none c = λ ts.
    let others = named (names_in ts c.args.scope.now) c.args.name.now in
    c.if-is_none.false
    ∙ sym (none_at ts c.args.locals.now c.args.scope.now c.args.name.now c.get.result others c.get.ensures refl
    ∙ ap (λ b. not b && is_none others) c.if-is_none.ensures)
