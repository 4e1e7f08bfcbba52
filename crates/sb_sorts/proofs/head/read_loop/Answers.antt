use Rattle.std.proofs.Common.{ap, ap₂, sym, subst, ◌∙◌}
use Rattle.sb_reader.specs.Forms.{shape_of, shapes_in}
use Rattle.sb_sorts.specs.Heads.{head_in, Gives}
use Rattle.sb_sorts.specs.Indices.{numeral_in, by_loop}
use Rattle.sb_sorts.proofs.Indices.{a_loop, no_loop}
use Rattle.sb_sorts.proofs.head.read_loop.Goals as goal

pub returns-in_default-clause-reads : goal.returns-in_default-clause-reads
returns-in_default-clause-reads c = λ ts. no_loop (shapes_in c.args.indices) (sym c.in_default.ensures)

pub returns-in_default-digits_of-clause-reads : goal.returns-in_default-digits_of-clause-reads
returns-in_default-digits_of-clause-reads c = λ ts.
    a_loop (shapes_in c.args.indices) (shape_of c.in-Some.first) (shape_of c.in-Some.second) c.in-Some.ensures
    ∙ ap (λ ds. by_loop ds (numeral_in (shape_of c.in-Some.second))) (sym c.in_default-digits_of.ensures)

pub returns-in-None-clause-reads : goal.returns-in-None-clause-reads
returns-in-None-clause-reads c = λ ts.
    a_loop (shapes_in c.args.indices) (shape_of c.in-Some.first) (shape_of c.in-Some.second) c.in-Some.ensures
    ∙ ap₂ by_loop (sym c.in-Some-digits_of.ensures) (sym c.in-None.ensures)

pub returns-in-Some-digits_of-2-clause-reads : goal.returns-in-Some-digits_of-2-clause-reads
returns-in-Some-digits_of-2-clause-reads c = λ ts.
    subst (λ reading. Gives (head_in ts) reading c.loop_of.result)
    (sym (a_loop (shapes_in c.args.indices) (shape_of c.in-Some.first) (shape_of c.in-Some.second) c.in-Some.ensures
    ∙ ap₂ by_loop (sym c.in-Some-digits_of.ensures) (sym c.in-Some-digits_of-2.ensures)))
    (c.loop_of.ensures.reads ts)
