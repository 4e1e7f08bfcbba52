use Rattle.std.proofs.Common.{[]}
use Rattle.std.proofs.lemmas.Result.{err_from_is_err_and}
use Rattle.sb_script.specs.Heads.{applied_to, read_head}
use Rattle.sb_sorts.specs.Locals.{names_at}
use Rattle.sb_sorts.proofs.Reading.{faults_first, exits}
use Rattle.sb_sorts.proofs.read.read_name.Goals as goal

pub returns-in_err-head-clause-reads : goal.returns-in_err-head-clause-reads
returns-in_err-head-clause-reads c =
    let ts = c.args.table.now in
    let names = names_at ts c.args.locals.now c.args.scope.now in
    let p = err_from_is_err_and c.from_residual.result c.from_residual.ensures.1 in
    let e = c.in_err-head.field-0.0 in
    exits ts _ c.from_residual.result e p.0 p.1 p.2
    (faults_first (read_head names c.args.name.now) (λ h. applied_to h []) e (c.in_err-head.ensures.reads ts))
