use Rattle.std.proofs.Common.{arith}
use Rattle.sb_term.specs.Numbered.{term_at}
use Rattle.sb_fragment.proofs.MembershipFacts.{not_two_sides}
use Rattle.sb_fragment.proofs.memberships.sides_of.Goals as goal
use Rattle.sb_fragment.proofs.memberships.sides_of.Goals.{in_default-as_slice-via-then-as_slice-lt2}
use Rattle.sb_fragment.proofs.memberships.sides_of.Goals.{in_default-as_slice-via-else-as_slice-lt2+else-this-lt3}

pub returns-in_default-as_slice-clause-parts : goal.returns-in_default-as_slice-clause-parts
returns-in_default-as_slice-clause-parts c =
    not_two_sides c.args.table.now c.term.result.now c.in-Apply.symbol c.in-Apply.arguments
    (term_at c.args.table.now c.args.id) c.in-Apply.is c.in-Equal.is c.term.ensures.value
    (λ two. elim c.in_default-as_slice.branch [
      | in_default-as_slice-via-then-as_slice-lt2 w ↦ grind arith
      | in_default-as_slice-via-else-as_slice-lt2+else-this-lt3 w ↦ grind arith
    ])
