use Rattle.std.proofs.Common.{◌≡◌, ◌-◌, suc, length, subst, arith}
use Rattle.std.proofs.lemmas.Result.{IfOk-from_err}
use Rattle.sb_fragment.specs.Ruled.{rule_in}
use Rattle.sb_fragment.proofs.RuledFacts.{KeepBehind, keep_none, keep_more, keep_all, keep_fails, one_within}
use Rattle.sb_fragment.proofs.ruled.keep_each.Goals as goal

pub loop-place-init : goal.loop-place-init
loop-place-init c = (
  omega arith,
  c.requires.right,
  keep_none (rule_in c.args.law) c.args.table.now c.args.ids.now _ (omega arith),
)

pub ruled_parts-parts-requires : goal.ruled_parts-parts-requires
ruled_parts-parts-requires c =
    one_within (length c.args.table.now) c.args.ids.now (c.loop-place.place - 1) c.index-ids-place.result
    (omega (arith, c.loop-place.invariant.0, c.loop-place-test.true)) c.index-ids-place.is c.requires.numbers

pub kept_here-requires : goal.kept_here-requires
kept_here-requires c = record {
  number = one_within (length c.args.table.now) c.args.ids.now (c.loop-place.place - 1) c.index-ids-place.result
      (omega (arith, c.loop-place.invariant.0, c.loop-place-test.true)) c.index-ids-place.is c.requires.numbers;
  right = c.loop-place.invariant.1;
}

pub loop-place-preserved : goal.loop-place-preserved
loop-place-preserved c =
    let k = c.loop-place.place - 1 in
    let same : c.loop-place.place ≡ suc k = omega (arith, c.loop-place-test.true) in (
      omega (arith, c.loop-place.invariant.0),
      c.in_ok-kept.ensures.right,
      keep_more (rule_in c.args.law) c.args.table.now c.args.ids.now c.ruled_parts-parts.result.now k
          c.index-ids-place.result c.in_ok-kept.kept c.requires.parts
          (omega (arith, c.loop-place.invariant.0, c.loop-place-test.true)) c.index-ids-place.is
          c.ruled_parts-parts.ensures.terms c.ruled_parts-parts.ensures.below c.in_ok-kept.ensures.ok
          c.if-not-kept.false
          (subst (KeepBehind (rule_in c.args.law) c.args.table.now c.args.ids.now) same c.loop-place.invariant.2),
    )

pub returns-then-not-kept : goal.returns-then-not-kept
returns-then-not-kept c = record {
  ok = λ root reached.
      keep_fails (rule_in c.args.law) c.args.table.now root c.args.ids.now (c.loop-place.place - 1)
      c.index-ids-place.result c.in_ok-kept.kept reached
      (omega (arith, c.loop-place.invariant.0, c.loop-place-test.true)) c.index-ids-place.is
      c.in_ok-kept.ensures.ok c.if-not-kept.true;
  right = c.in_ok-kept.ensures.right;
}

pub returns-in_err-kept : goal.returns-in_err-kept
returns-in_err-kept c = record {
  ok = IfOk-from_err c.from_residual.result _ c.from_residual.ensures.0;
  right = c.in_err-kept.ensures.right;
}

pub returns : goal.returns
returns c = record {
  ok = λ root reached.
      keep_all (rule_in c.args.law) c.args.table.now root c.args.ids.now c.loop-place.place reached
      (omega (arith, c.loop-place-test.false)) c.loop-place.invariant.2;
  right = c.loop-place.invariant.1;
}
