use Rattle.std.proofs.Common.{◌-◌, ap, arith}
use Rattle.sb_trail.specs.declared.assigned.Assigned.{Assigned}
use Rattle.std.proofs.lemmas.List.{get_or_read}
use Rattle.sb_clauses.proofs.Marked.{no_entry, end_less, end_here}
use Rattle.std.proofs.lemmas.Grind.{common_steps}
use Rattle.sb_clauses.proofs.marks.end_of.Goals as goal

pub loop-count-preserved : goal.loop-count-preserved
loop-count-preserved c = record {
  within = omega (arith, c.loop-count.invariant.within);
  same = end_less c.args.level c.loop-count.count c.args.entries.now c.loop-count-test.true c.loop-count.invariant.within
      (omega (
        arith,
        c.if-level.true,
        c.level.ensures,
        ap (λ (e : Assigned). e.level) (get_or_read c.args.entries.now (c.loop-count.count - 1) c.index-entries-count.result
            (omega (arith, c.loop-count-test.true, c.loop-count.invariant.within)) c.index-entries-count.is no_entry),
      ))
      c.loop-count.invariant.same;
}

pub returns-else-level-clause-end : goal.returns-else-level-clause-end
returns-else-level-clause-end c =
    end_here c.args.level c.loop-count.count c.args.entries.now c.requires c.loop-count.invariant.within
    (λ some. omega (
      arith,
      c.if-level.false,
      c.level.ensures,
      ap (λ (e : Assigned). e.level) (get_or_read c.args.entries.now (c.loop-count.count - 1) c.index-entries-count.result
          (omega (arith, some, c.loop-count.invariant.within)) c.index-entries-count.is no_entry),
    )) c.loop-count.invariant.same

pub returns-after-loop-count-clause-end : goal.returns-after-loop-count-clause-end
returns-after-loop-count-clause-end c =
    end_here c.args.level c.loop-count.count c.args.entries.now c.requires c.loop-count.invariant.within
    (λ some. absurd (omega (arith, c.loop-count-test.false))) c.loop-count.invariant.same

pub loop-count-init : goal.loop-count-init
loop-count-init c = grind (arith, common_steps)
