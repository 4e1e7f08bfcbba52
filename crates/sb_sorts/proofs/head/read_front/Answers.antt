use Rattle.std.proofs.Common.{subst, sym, ◌∙◌}
use Rattle.sb_reader.specs.Forms.{shape_of, shapes_in}
use Rattle.sb_sorts.specs.Locals.{names_at}
use Rattle.sb_sorts.specs.Heads.{beginning_in, Gives}
use Rattle.sb_sorts.proofs.Shapes.{begun}
use Rattle.sb_sorts.proofs.head.read_front.Goals as goal

pub returns : goal.returns
returns c =
    let given = c.read_some_front.ensures in
    record {
      reads = λ ts. subst (λ reading. Gives (beginning_in ts) reading c.read_some_front.result)
          (begun (names_at ts c.args.locals.now c.args.scope.now) (shape_of c.args.first) (shapes_in c.args.others)
          (sym c.is_empty.ensures ∙ c.if-is_empty.false)) (given.reads ts);
      declared = given.declared;
      numbers = given.numbers;
    }
