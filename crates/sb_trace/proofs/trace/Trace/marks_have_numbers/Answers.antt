use Rattle.std.specs.Prelude.{ℕ, List, nat_eq}
use Rattle.std.specs.List.{IsDistinct}
use Rattle.std.proofs.Common.{ap, subst}
use Rattle.sb_trace.specs.Tracking.{Traced}
use Rattle.sb_trace.proofs.trace.Trace.marks_have_numbers.Goals as goal

pub returns-clause-each_once : goal.returns-clause-each_once
returns-clause-each_once c =
    subst (λ (ms : List ℕ). IsDistinct nat_eq ms) (ap (λ (t : Traced). t.order) c.self.view_is)
    c.as_slice-order.ensures.unique
