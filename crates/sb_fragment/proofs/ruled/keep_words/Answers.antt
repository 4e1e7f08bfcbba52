use Rattle.std.proofs.Common.{◌≡◌, ◌-◌, suc, drop, refl, subst, arith}
use Rattle.std.proofs.lemmas.Result.{IfOk-from_err}
use Rattle.sb_term.specs.Numbered.{terms_at}
use Rattle.sb_fragment.proofs.RuledFacts.{AreRuled, ruled_none, ruled_step, ruled_end}
use Rattle.sb_fragment.proofs.ruled.keep_words.Goals as goal

pub loop-left-init : goal.loop-left-init
loop-left-init c = (
  omega arith,
  c.requires.right,
  ruled_none c.args.law c.args.distinct c.args.table.now c.args.arguments.now _ (omega arith),
)

pub side_keeps-requires : goal.side_keeps-requires
side_keeps-requires c = record {
  number = omega (
    arith,
    c.index-arguments-left.is,
    c.requires.numbers (c.loop-left.left - 1)
        c.index-arguments-left.result (omega (arith, c.loop-left.invariant.0, c.loop-left-test.true)),
  );
  right = c.loop-left.invariant.1;
}

pub loop-left-preserved : goal.loop-left-preserved
loop-left-preserved c =
    let k = c.loop-left.left - 1 in
    let same : c.loop-left.left ≡ suc k = omega (arith, c.loop-left-test.true) in (
      omega (arith, c.loop-left.invariant.0),
      c.in_ok-one.ensures.right,
      ruled_step c.args.law c.args.distinct c.args.table.now c.args.arguments.now k c.index-arguments-left.result
          c.loop-left.all c.row_keeps-row.result _ c.in_ok-one.one c.loop-left.behind _ c.loop-left.none
          (omega (arith, c.loop-left.invariant.0, c.loop-left-test.true)) c.index-arguments-left.is
          c.in_ok-one.ensures.ok c.row_keeps-row.ensures refl refl
          (subst (λ n. AreRuled c.args.law c.args.distinct (terms_at c.args.table.now (drop n c.args.arguments.now))
          c.loop-left.all c.loop-left.behind c.loop-left.none) same c.loop-left.invariant.2),
    )

pub returns-in_err-one : goal.returns-in_err-one
returns-in_err-one c = record {
  ok = IfOk-from_err c.from_residual.result _ c.from_residual.ensures.0;
  right = c.in_err-one.ensures.right;
}

pub returns : goal.returns
returns c = record {
  ok = ruled_end c.args.law c.args.distinct c.args.table.now c.args.arguments.now c.loop-left.left c.loop-left.all
      c.loop-left.behind c.loop-left.none (omega (arith, c.loop-left-test.false)) c.loop-left.invariant.2;
  right = c.loop-left.invariant.1;
}
