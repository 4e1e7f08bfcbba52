use Rattle.sb_refute.proofs.Words.{ap, ap₂, subst, sym, ◌∙◌, List, Option, State, dropped_above, Asserted, EmptyClause, Backing, Backs, backing_of, left_above, Stand}
use Rattle.sb_refute.proofs.Backs.{backs-left_above}
use Rattle.sb_refute.proofs.Holding.{stand-left}
use Rattle.sb_refute.proofs.evidence.Evidence.leave_above.Goals as goal

pub returns-clause-left_above : goal.returns-clause-left_above
returns-clause-left_above c =
    ap₂ (λ (xs : List (Option Asserted)) (s : State). record (backing_of c.self.inside.parts) {
      kept = s.kept;
      asserted = xs;
      refuted = c.empty_up_to-empty.result;
    }) c.truncate.ensures.items c.leave_above.ensures
    ∙ (ap (λ (v : Backing). record (left_above c.args.level c.args.count v) { refuted = c.empty_up_to-empty.result })
    c.self.view_is
    ∙ ap (λ (r : Option EmptyClause). record (left_above c.args.level c.args.count c.args.self.now) { refuted = r })
    c.empty_up_to-empty.ensures)

pub invariant_of-self : goal.invariant_of-self
invariant_of-self c = (
  subst Stand (sym (returns-clause-left_above c))
      (stand-left c.args.level c.args.count c.args.self.now (subst Stand c.self.view_is c.self.invariant.0)),
  ap (λ (s : State). s.trail.literals) c.leave_above.ensures ∙ c.self.invariant.1,
)

pub returns-clause-backs : goal.returns-clause-backs
returns-clause-backs c = λ rs memo kept b up_to.
    subst (λ (e : Backing). Backs rs memo e (dropped_above c.args.level kept)) (sym (returns-clause-left_above c))
    (backs-left_above rs memo c.args.self.now kept c.args.level c.args.count up_to b)
