use Rattle.std.proofs.Common.{false, refl, ◌∙◌, arith}
use Rattle.sb_term.specs.Numbered.{term_at}
use Rattle.sb_fragment.specs.Fitting.{fit_with}
use Rattle.sb_fragment.proofs.FittingFacts.{member_fit, no_member, number_fit}
use Rattle.sb_fragment.proofs.fitting.fit_member.Goals as goal

pub returns-in_default : goal.returns-in_default
returns-in_default c =
    no_member (term_at c.args.table.now c.args.id) (fit_with false false) c.in_default.ensures.parts c.requires.member

pub is_single-requires : goal.is_single-requires
is_single-requires c = record {
  number = omega (arith, c.in-Some.ensures.smaller.0, c.requires.reached);
  right = c.requires.right;
}

pub returns : goal.returns
returns c =
    let ts = c.args.table.now in
    let fit = c.fit_regex-fit.result in
    let regex = c.fit_regex-fit.ensures
    ∙ number_fit ts c.args.measures.now c.in-Some.pair.1 c.number.result _ c.requires.right c.number.ensures
    (omega (arith, c.in-Some.ensures.smaller.1, c.requires.reached)) in
    member_fit ts c.args.id c.in-Some.pair.0 c.in-Some.pair.1 fit c.in_ok-single.single _ c.in-Some.ensures.parts
    c.in_ok-single.ensures regex refl
