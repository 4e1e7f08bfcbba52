use Rattle.std.proofs.Common.{ap, sym, ◌∙◌}
use Rattle.sb_reader.specs.Forms.{shape_of, shapes_in}
use Rattle.sb_sorts.specs.Indices.{by_power}
use Rattle.sb_sorts.proofs.Indices.{a_power, no_power, power_small, power_large}
use Rattle.sb_sorts.proofs.head.read_power.Goals as goal

pub returns-in_default-clause-reads : goal.returns-in_default-clause-reads
returns-in_default-clause-reads c = λ ts. no_power (shapes_in c.args.indices) (sym c.in_default.ensures)

pub returns-in_default-digits_of-clause-reads : goal.returns-in_default-digits_of-clause-reads
returns-in_default-digits_of-clause-reads c = λ ts.
    a_power (shapes_in c.args.indices) (shape_of c.in-Some.index) c.in-Some.ensures
    ∙ ap by_power (sym c.in_default-digits_of.ensures)

pub returns-in-None-clause-reads : goal.returns-in-None-clause-reads
returns-in-None-clause-reads c = λ ts.
    a_power (shapes_in c.args.indices) (shape_of c.in-Some.index) c.in-Some.ensures
    ∙ ap by_power (sym c.in-Some-digits_of.ensures) ∙ power_large c.in-Some-digits_of.digits.now c.in-None.ensures

pub returns-in-Some-number_up_to-clause-reads : goal.returns-in-Some-number_up_to-clause-reads
returns-in-Some-number_up_to-clause-reads c = λ ts.
    a_power (shapes_in c.args.indices) (shape_of c.in-Some.index) c.in-Some.ensures
    ∙ ap by_power (sym c.in-Some-digits_of.ensures)
    ∙ power_small c.in-Some-digits_of.digits.now c.in-Some-number_up_to.count c.in-Some-number_up_to.ensures.0
    c.in-Some-number_up_to.ensures.1
