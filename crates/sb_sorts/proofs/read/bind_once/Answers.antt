use Rattle.std.proofs.Common.{List, subst}
use Rattle.std.proofs.lemmas.Result.{err_from_is_err_and}
use Rattle.sb_meaning.specs.Terms.{Term}
use Rattle.sb_script.specs.Reading.{once}
use Rattle.sb_sorts.specs.declared.read.Bound.{Bound}
use Rattle.sb_sorts.specs.Binding.{pairs_of, locals_at}
use Rattle.sb_sorts.specs.Reads.{Faults}
use Rattle.sb_sorts.proofs.Reading.{fault_exits}
use Rattle.sb_sorts.proofs.read.bind_once.Goals as goal

pub returns-in_err-refuse_again : goal.returns-in_err-refuse_again
returns-in_err-refuse_again c =
    let p = err_from_is_err_and c.from_residual.result c.from_residual.ensures.1 in
    let e = c.in_err-refuse_again.field-0.0 in
    fault_exits _ _ c.from_residual.result e p.0 p.1 p.2
    (subst (λ (bs : List Bound). (ts : List Term) → Faults (once (locals_at ts (pairs_of bs))) e) c.deref.ensures.value
    c.in_err-refuse_again.ensures)
