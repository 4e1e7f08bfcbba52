use Rattle.std.proofs.Common.{arith}
use Rattle.sb_term.specs.Numbered.{term_at}
use Rattle.sb_fragment.specs.Shapes.{parts_of}
use Rattle.sb_fragment.proofs.MeasureFacts.{parts_fit, measure_is}
use Rattle.sb_fragment.proofs.measures.measure_of.Goals as goal

pub total_of-all-requires : goal.total_of-all-requires
total_of-all-requires c = λ k d l. omega (arith, c.arguments_of.ensures.below k d l, c.requires.reached)

pub fit_of-requires : goal.fit_of-requires
fit_of-requires c = record {
  number = c.requires.number;
  reached = c.requires.reached;
  right = c.requires.right;
  each = parts_fit c.args.table.now c.args.measures.now c.arguments_of.result.now
      (parts_of (term_at c.args.table.now c.args.id)) c.total_of-all.result c.requires.right
      (λ k d l. omega (arith, c.arguments_of.ensures.below k d l, c.requires.reached)) c.arguments_of.ensures.terms
      c.total_of-all.ensures;
}

pub returns : goal.returns
returns c =
    measure_is c.args.table.now c.args.measures.now c.arguments_of.result.now c.term.result.now
    (term_at c.args.table.now c.args.id) c.total_of-all.result c.plain_of-plain.result c.in_ok-fit.fit
    c.requires.right (λ k d l. omega (arith, c.arguments_of.ensures.below k d l, c.requires.reached))
    c.arguments_of.ensures.terms c.total_of-all.ensures c.term.ensures.value c.plain_of-plain.ensures
    c.in_ok-fit.ensures
