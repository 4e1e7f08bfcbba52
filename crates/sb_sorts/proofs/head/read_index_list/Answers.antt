use Rattle.std.proofs.Common.{sym, ap, subst, ◌∙◌}
use Rattle.sb_reader.specs.Forms.{shape_of, shapes_in}
use Rattle.sb_script.specs.Reading.{read_index_list}
use Rattle.sb_sorts.specs.Locals.{names_at}
use Rattle.sb_sorts.specs.Heads.{head_in, Gives}
use Rattle.sb_sorts.proofs.Shapes.{by_name, indexed, unindexed}
use Rattle.sb_sorts.proofs.head.read_index_list.Goals as goal

pub returns-in-Some-name_of-clause-reads : goal.returns-in-Some-name_of-clause-reads
returns-in-Some-name_of-clause-reads c = λ ts.
    let names = names_at ts c.args.locals.now c.args.scope.now in
    let indices = shapes_in c.in-Some.indices in
    let by = ap (read_index_list names) c.in-Some.ensures
    ∙ indexed names (shape_of c.in-Some.first) indices (sym c.is_empty.ensures ∙ c.if-is_empty.false) in
    subst (λ reading. Gives (head_in ts) reading c.read_indexed.result)
    (sym (by ∙ ap (by_name names indices) (sym c.in-Some-name_of.ensures))) (c.read_indexed.ensures.reads ts)

pub returns-in-None-clause-reads : goal.returns-in-None-clause-reads
returns-in-None-clause-reads c = λ ts.
    let names = names_at ts c.args.locals.now c.args.scope.now in
    let indices = shapes_in c.in-Some.indices in
    ap (read_index_list names) c.in-Some.ensures
    ∙ indexed names (shape_of c.in-Some.first) indices (sym c.if-is_empty.ensures)
    ∙ ap (by_name names indices) (sym c.in-None.ensures)

pub returns-then-is_empty-clause-reads : goal.returns-then-is_empty-clause-reads
returns-then-is_empty-clause-reads c = λ ts.
    let names = names_at ts c.args.locals.now c.args.scope.now in
    ap (read_index_list names) c.in-Some.ensures
    ∙ unindexed names (shape_of c.in-Some.first) (shapes_in c.in-Some.indices) (sym c.if-is_empty.ensures)

pub returns-in_default-clause-reads : goal.returns-in_default-clause-reads
returns-in_default-clause-reads c = λ ts.
    ap (read_index_list (names_at ts c.args.locals.now c.args.scope.now)) c.in_default.ensures
