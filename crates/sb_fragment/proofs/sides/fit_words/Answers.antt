use Rattle.std.proofs.Common.{◌≡◌, ◌-◌, suc, drop, refl, subst, arith}
use Rattle.sb_term.specs.Numbered.{terms_at}
use Rattle.sb_fragment.proofs.SideFacts.{AreBehind, behind_none, behind_step, behind_end}
use Rattle.sb_fragment.proofs.sides.fit_words.Goals as goal

pub loop-left-init : goal.loop-left-init
loop-left-init c = (
  omega arith,
  behind_none c.args.distinct c.args.table.now c.args.arguments.now _ _ (omega arith) refl,
)

pub side_of-requires : goal.side_of-requires
side_of-requires c = record {
  number = omega (
    arith,
    c.index-arguments-left.is,
    c.requires.numbers (c.loop-left.left - 1)
        c.index-arguments-left.result (omega (arith, c.loop-left.invariant.0, c.loop-left-test.true)),
  );
  right = c.requires.right;
}

pub loop-left-preserved : goal.loop-left-preserved
loop-left-preserved c =
    let k = c.loop-left.left - 1 in
    let same : c.loop-left.left ≡ suc k = omega (arith, c.loop-left-test.true) in (
      omega (arith, c.loop-left.invariant.0),
      behind_step c.args.distinct c.args.table.now c.args.arguments.now k c.index-arguments-left.result c.loop-left.all
          c.fits_row-fits.result _ c.in_ok-side.side c.loop-left.behind c.with_side-behind.result
          (omega (arith, c.loop-left.invariant.0, c.loop-left-test.true)) c.index-arguments-left.is
          c.in_ok-side.ensures c.fits_row-fits.ensures refl c.with_side-behind.ensures
          (subst (λ n. AreBehind c.args.distinct (terms_at c.args.table.now (drop n c.args.arguments.now))
          c.loop-left.all c.loop-left.behind) same c.loop-left.invariant.1),
    )

pub returns : goal.returns
returns c =
    behind_end c.args.distinct c.args.table.now c.args.arguments.now c.loop-left.left c.loop-left.all
    c.loop-left.behind (omega (arith, c.loop-left-test.false)) c.loop-left.invariant.1
