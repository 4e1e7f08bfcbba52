use Rattle.std.proofs.Common.{ap, arith}
use Rattle.std.proofs.Math.Seq.{map-set_same}
use Rattle.sb_hints.specs.declared.rows.Row.{Row}
use Rattle.sb_hints.specs.Storing.{before_of, no_row}
use Rattle.sb_hints.proofs.Storage.{row_there, same-set}
use Rattle.sb_hints.proofs.rows.set_behind.Goals as goal

pub returns-then-number-len-clause-same : goal.returns-then-number-len-clause-same
returns-then-number-len-clause-same c =
    let is = row_there c.args.rows.now.items c.in-Some.number c.index_mut.result.now
    (omega (arith, c.if-number-len.true, c.len.ensures, c.args.rows.now.ok.0, c.args.rows.now.ok.1))
    c.index_mut.ensures.value in
    same-set c.args.rows.now.items c.in-Some.number _ (ap (λ (r : Row). r.start) is) (ap (λ (r : Row). r.end) is)
    (ap (λ (r : Row). r.level) is) (ap (λ (r : Row). r.is_kept) is)

pub returns-then-number-len-clause-before : goal.returns-then-number-len-clause-before
returns-then-number-len-clause-before c =
    let is = row_there c.args.rows.now.items c.in-Some.number c.index_mut.result.now
    (omega (arith, c.if-number-len.true, c.len.ensures, c.args.rows.now.ok.0, c.args.rows.now.ok.1))
    c.index_mut.ensures.value in
    map-set_same before_of c.args.rows.now.items c.in-Some.number _ no_row (ap before_of is)
