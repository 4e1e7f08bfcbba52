use Rattle.sb_decide.proofs.Words.{sym, ap, ◌∙◌, arith, node_term, term_at}
use Rattle.sb_decide.proofs.DemandFacts.{not_one}
use Rattle.sb_decide.proofs.demand.denied.Goals.{in_default-as_slice-via-then-as_slice-lt1, in_default-as_slice-via-else-as_slice-lt1+else-this-lt2}
use Rattle.sb_decide.proofs.demand.denied.Goals as goal

pub returns-in_default-as_slice-clause-parts : goal.returns-in_default-as_slice-clause-parts
returns-in_default-as_slice-clause-parts c =
    not_one c.args.table.now c.in-Apply.symbol c.in-Apply.arguments.items (term_at c.args.table.now c.args.id)
    (sym (ap (node_term c.args.table.now) c.in-Apply.is) ∙ c.term.ensures.value) c.in-Not.is
    (λ one. elim c.in_default-as_slice.branch [
      | in_default-as_slice-via-then-as_slice-lt1 w ↦ grind arith
      | in_default-as_slice-via-else-as_slice-lt1+else-this-lt2 w ↦ grind arith
    ])
