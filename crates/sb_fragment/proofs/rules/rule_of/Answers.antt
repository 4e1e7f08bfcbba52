use Rattle.sb_term.specs.Numbered.{term_at}
use Rattle.sb_fragment.proofs.RuleFacts.{breaks, is_not_brought, is_too_large, keeps_both_by}
use Rattle.sb_fragment.proofs.rules.rule_of.Goals as goal

pub returns-then-not-once : goal.returns-then-not-once
returns-then-not-once c = record {
  ok = breaks _ _ c.in_ok-once.ensures.ok c.if-not-once.true;
  right = c.in_ok-once.ensures.right;
}

pub returns-then-not-one_side : goal.returns-then-not-one_side
returns-then-not-one_side c = record {
  ok = breaks _ _ c.in_ok-one_side.ensures.ok c.if-not-one_side.true;
  right = c.in_ok-one_side.ensures.right;
}

pub returns-then-measure : goal.returns-then-measure
returns-then-measure c =
    let t = term_at c.args.table.now c.args.id in
    record {
      ok = is_too_large t c.in_ok-measure.measure c.in_ok-measure.ensures.ok c.if-measure.true c.requires.outside
          (keeps_both_by t c.in_ok-once.once c.in_ok-one_side.one_side c.in_ok-once.ensures.ok c.if-not-once.false
          c.in_ok-one_side.ensures.ok c.if-not-one_side.false);
      right = c.in_ok-measure.ensures.right;
    }

pub returns-else-measure : goal.returns-else-measure
returns-else-measure c =
    let t = term_at c.args.table.now c.args.id in
    record {
      ok = is_not_brought t c.in_ok-measure.measure c.in_ok-measure.ensures.ok c.if-measure.false
          (keeps_both_by t c.in_ok-once.once c.in_ok-one_side.one_side c.in_ok-once.ensures.ok c.if-not-once.false
          c.in_ok-one_side.ensures.ok c.if-not-one_side.false);
      right = c.in_ok-measure.ensures.right;
    }
