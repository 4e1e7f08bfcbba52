use Rattle.sb_search.proofs.Words.{subst, refl, IfOk-from_err, IfOk-weaker, nothing, Core, IsCore}
use Rattle.sb_search.proofs.Steps.{faults_stay}
use Rattle.sb_search.proofs.conflict.refute.Goals as goal

pub final_core-requires : goal.final_core-requires
final_core-requires g c = record {
  reasoned = rw (c.clauses.ensures, c.trail.ensures) c.requires.reasoned;
  decisions = rw c.trail.ensures c.requires.assumed;
  conflict = rw (c.clauses.ensures, c.trail.ensures) c.requires.conflict;
}

pub returns-in_err-core : goal.returns-in_err-core
returns-in_err-core g c = record {
  refutes = IfOk-from_err c.from_residual.result _ c.from_residual.ensures.0;
  counts = faults_stay c.from_residual.result c.from_residual.ensures.1 refl;
}

pub returns-in-Kept : goal.returns-in-Kept
returns-in-Kept g c = record {
  refutes = record {
    says = λ wanted.
        rw c.clauses.ensures at
        (subst (λ (core : Core). IsCore c.clauses.result.now c.args.assumptions.now core) c.in-Kept.is
        c.in_ok-core.ensures);
    not_sat = λ is. Prim.cc (is);
    reasoned = c.requires.reasoned;
    literals = refl;
    writes = nothing refl;
  };
  counts = refl;
}

pub returns-in-Both : goal.returns-in-Both
returns-in-Both g c =
    let core = subst (λ (core : Core). IsCore c.clauses.result.now c.args.assumptions.now core) c.in-Both.is
    c.in_ok-core.ensures in
    record {
      refutes = IfOk-weaker c.keep_both.result _ _
          (λ found h. h c.args.assumptions.now c.args.budget.now (rw c.clauses.ensures at core))
          c.keep_both.ensures.refutes;
      counts = c.keep_both.ensures.counts;
    }

pub returns-in-New : goal.returns-in-New
returns-in-New g c =
    let core = subst (λ (core : Core). IsCore c.clauses.result.now c.args.assumptions.now core) c.in-New.is
    c.in_ok-core.ensures in
    record {
      refutes = IfOk-weaker c.keep_core.result _ _
          (λ found h. h c.args.assumptions.now (rw c.clauses.ensures at core)) c.keep_core.ensures.refutes;
      counts = c.keep_core.ensures.counts;
    }
