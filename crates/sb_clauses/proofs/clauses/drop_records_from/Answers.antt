use Rattle.std.proofs.Common.{None, refl, ◌∙◌, ap, length, arith}
use Rattle.std.specs.Option.{option_map}
use Rattle.std.proofs.lemmas.List.{length-map, length-set}
use Rattle.sb_lit.specs.Kept.{Kept}
use Rattle.sb_clauses.specs.Records.{clause_of, kept_of}
use Rattle.sb_clauses.proofs.AllDropped.{empty_one, empty_all}
use Rattle.std.proofs.lemmas.Grind.{common_steps}
use Rattle.sb_clauses.proofs.clauses.drop_records_from.Goals as goal

pub loop-number-init : goal.loop-number-init
loop-number-init c = (c.requires.empty, refl, c.requires.found)

pub loop-number-preserved : goal.loop-number-preserved
loop-number-preserved c =
    let rows = c.loop-number.records in
    let n = c.loop-number.number in (
      empty_one n (kept_of rows.items) _
          (omega (arith, c.loop-number-test.true, c.len.ensures, rows.ok.0, length-map rows.items (option_map clause_of)))
          c.empty.ensures.emptied c.loop-number.invariant.0,
      ap (λ (kept : Kept). length kept) c.empty.ensures.emptied ∙ length-set (kept_of rows.items) n None
          ∙ c.loop-number.invariant.1,
      c.empty.ensures.found,
    )

pub returns-clause-dropped : goal.returns-clause-dropped
returns-clause-dropped c =
    let rows = c.loop-number.records in
    empty_all c.loop-number.number (kept_of c.args.records.now.items) (kept_of rows.items) c.loop-number.invariant.1
    (omega (arith, c.loop-number-test.false, c.len.ensures, rows.ok.0, length-map rows.items (option_map clause_of)))
    c.loop-number.invariant.0

pub loop-number-smaller : goal.loop-number-smaller
loop-number-smaller c = grind (arith, common_steps)
