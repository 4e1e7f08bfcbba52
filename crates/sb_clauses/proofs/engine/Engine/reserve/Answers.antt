use Rattle.std.proofs.Common.{◌≡◌, ℕ, Result, Ok, Err, ap}
use Rattle.std.specs.Result.{OnOk, OnErr}
use Rattle.sb_trail.specs.Assignments.{Assignments}
use Rattle.std.proofs.lemmas.Result.{on_ok_weaker, on_err_weaker}
use Rattle.sb_clauses.specs.Propagation.{State}
use Rattle.sb_clauses.proofs.engine.Engine.reserve.Goals as goal

-- reserving leaves the literals

same_literals : {X E : Type 0} (r : Result X E) (old new : Assignments) (n : ℕ)
    → OnOk r (new ≡ record old { reserved = n }) → OnErr r (new ≡ old) → new.literals ≡ old.literals
same_literals (Ok x) old new n ok err = ap (λ (t : Assignments). t.literals) ok
same_literals (Err e) old new n ok err = ap (λ (t : Assignments). t.literals) err

pub invariant_of-self : goal.invariant_of-self
invariant_of-self c = rw c.reserve.ensures.items c.self.invariant

pub invariant_of-self-2 : goal.invariant_of-self-2
invariant_of-self-2 c =
    rw (c.reserve.ensures.items, same_literals _ _ _ _ c.reserve-2.ensures.ok c.reserve-2.ensures.err) c.self.invariant

pub returns-clause-ok : goal.returns-clause-ok
returns-clause-ok c =
    let s : State = record { kept = c.self.inside.clauses; trail = c.self.inside.trail } in
    rw (← c.self.view_is)
    (on_ok_weaker c.reserve-2.result (λ e. ap (λ (t : Assignments). record s { trail = t }) e) c.reserve-2.ensures.ok)

pub returns-clause-err : goal.returns-clause-err
returns-clause-err c = on_err_weaker c.reserve-2.result (λ e. rw e c.self.view_is) c.reserve-2.ensures.err
