use Rattle.std.proofs.Common.{length, refl, sym, subst}
use Rattle.sb_sorts.specs.Scopes.{named_in}
use Rattle.sb_sorts.specs.Heads.{head_in, Gives}
use Rattle.sb_sorts.proofs.Staying.{head_bound, head_named, head_unnamed, head_number_bound, theories_below, theories_number}
use Rattle.sb_sorts.proofs.head.read_head.Goals as goal

pub returns-in-Some : goal.returns-in-Some
returns-in-Some c =
    let locals = c.args.locals.now in
    let scope = c.args.scope.now in
    let name = c.args.name.now in
    record {
      reads = λ ts. head_bound ts locals scope name c.in-Some.id c.in-Some.ensures;
      declared = refl;
      numbers = λ ts right. head_number_bound ts locals scope name c.in-Some.id right c.in-Some.ensures;
    }

pub returns-in-Some-look_up : goal.returns-in-Some-look_up
returns-in-Some-look_up c =
    let given = c.head_of.ensures in
    let locals = c.args.locals.now in
    let scope = c.args.scope.now in
    let name = c.args.name.now in
    record {
      reads = λ ts. subst (λ reading. Gives (head_in ts) reading c.head_of.result)
          (sym (head_named ts locals scope name (named_in ts c.in-Some-look_up.named.now) c.in_default.ensures
          (c.in-Some-look_up.ensures.value ts))) (given.reads ts);
      declared = given.declared (length scope.sorts) c.in-Some-look_up.ensures.serial;
      numbers = λ ts right. given.numbers (length ts) (c.in-Some-look_up.ensures.body ts right.bodies);
    }

pub returns-in-None : goal.returns-in-None
returns-in-None c =
    let given = c.read_symbol.ensures in
    let locals = c.args.locals.now in
    let scope = c.args.scope.now in
    let name = c.args.name.now in
    record {
      reads = λ ts. subst (λ reading. Gives (head_in ts) reading c.read_symbol.result)
          (sym (head_unnamed ts locals scope name c.in_default.ensures (c.in-None.ensures.value ts))) (given.reads ts);
      declared = theories_below (length scope.sorts) c.read_symbol.result given.declared;
      numbers = λ ts right. theories_number (length ts) c.read_symbol.result given.declared;
    }
