use Rattle.sb_rulebook.specs.Translation.{conjunction}
use Rattle.sb_atoms.proofs.Connected.{gives_negated}
use Rattle.sb_atoms.proofs.table.Atoms.denial.Goals as goal

pub returns-clause-ok : goal.returns-clause-ok
returns-clause-ok c =
    rw c.negated.ensures (gives_negated c.args.adds c.conjunction.new.self
    (λ atoms. conjunction atoms c.args.literals.items) c.in_ok-conjunction.field-0 c.in_ok-conjunction.ensures.ok)
