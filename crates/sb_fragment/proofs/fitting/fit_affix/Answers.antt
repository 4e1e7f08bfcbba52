use Rattle.std.proofs.Common.{arith}
use Rattle.sb_term.specs.Numbered.{term_at}
use Rattle.sb_fragment.proofs.FittingFacts.{affix_fit, no_affix}
use Rattle.sb_fragment.proofs.fitting.fit_affix.Goals as goal

pub returns-in_default : goal.returns-in_default
returns-in_default c =
    no_affix (term_at c.args.table.now c.args.id) c.args.kind c.requires.affix c.in_default.ensures.parts

pub fit_part-requires : goal.fit_part-requires
fit_part-requires c = record {
  part = omega (arith, c.in-Some.ensures.smaller.0, c.requires.reached);
  whole = omega (arith, c.in-Some.ensures.smaller.1, c.requires.reached);
  right = c.requires.right;
}

pub returns : goal.returns
returns c =
    let ts = c.args.table.now in
    affix_fit (term_at ts c.args.id) (term_at ts c.in-Some.pair.0) (term_at ts c.in-Some.pair.1) c.args.kind
    c.in_ok-fits.fits c.requires.affix c.in-Some.ensures.parts c.in_ok-fits.ensures
