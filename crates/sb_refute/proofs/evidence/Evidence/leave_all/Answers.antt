use Rattle.sb_refute.proofs.Words.{None, ap, ap₂, subst, sym, ◌∙◌, List, Option, State, all_dropped, Asserted, Backing, Backs, backing_of, left_all, Stand}
use Rattle.sb_refute.proofs.Backs.{backs-left_all}
use Rattle.sb_refute.proofs.Holding.{stand-left_all}
use Rattle.sb_refute.proofs.evidence.Evidence.leave_all.Goals as goal

pub returns-clause-left_all : goal.returns-clause-left_all
returns-clause-left_all c =
    ap₂ (λ (xs : List (Option Asserted)) (s : State). record (backing_of c.self.inside.parts) {
      kept = s.kept;
      asserted = xs;
      refuted = None;
      gates = 0;
    }) c.clear.ensures.items c.leave_all.ensures
    ∙ ap left_all c.self.view_is

pub invariant_of-self : goal.invariant_of-self
invariant_of-self c = (
  subst Stand (sym (returns-clause-left_all c))
      (stand-left_all c.args.self.now (subst Stand c.self.view_is c.self.invariant.0)),
  ap (λ (s : State). s.trail.literals) c.leave_all.ensures ∙ c.self.invariant.1,
)

pub returns-clause-backs : goal.returns-clause-backs
returns-clause-backs c = λ rs memo kept b.
    subst (λ (e : Backing). Backs rs memo e (all_dropped kept)) (sym (returns-clause-left_all c))
    (backs-left_all rs memo c.args.self.now kept b)
