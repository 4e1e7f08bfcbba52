use Rattle.sb_prover.proofs.Words.{ℕ, List, Option, refl, subst, sym, IfOk-from_err, IsClosed, IsCompleted, IsReadyThen}
use Rattle.sb_prover.specs.declared.checking.Solution.TheVariants as solution
use Rattle.sb_prover.proofs.checking.completed.Goals as goal

pub close-requires : goal.close-requires
close-requires c = subst (IsReadyThen c.args.decider.now c.args.stack.now) c.in-Sat.is c.requires.ready

pub returns-in_err-others-in-Sat : goal.returns-in_err-others-in-Sat
returns-in_err-others-in-Sat c =
    let x = c.from_residual in
    record {
      completed = IfOk-from_err x.result _ x.ensures.0;
      knows = IfOk-from_err x.result _ x.ensures.0;
      rest = refl;
      store = refl;
    }

pub returns-in_err-full-in-Sat : goal.returns-in_err-full-in-Sat
returns-in_err-full-in-Sat c =
    let x = c.from_residual-in_err-full-in-Sat in
    let e = c.in_err-full-in-Sat.ensures in
    record {
      completed = IfOk-from_err x.result _ x.ensures.0;
      knows = IfOk-from_err x.result _ x.ensures.0;
      rest = e.rest;
      store = e.store;
    }

pub returns-in_ok-full-in-Sat : goal.returns-in_ok-full-in-Sat
returns-in_ok-full-in-Sat c =
    let e = c.in_ok-full-in-Sat.ensures in
    let full = c.in_ok-full-in-Sat.full in
    let others = c.in_ok-others-in-Sat.others in
    let closed = subst (λ (found : List (Option (List ℕ))).
    IsClosed c.args.decider.now c.args.stack.now found full.items) c.deref-in-Sat.ensures.value e.closed in
    record {
      completed = subst
          (λ solved. IsCompleted c.args.decider.now c.args.stack.now c.args.evidence.now solved
          (solution.Sat full others))
          (sym c.in-Sat.is) (
            closed,
            rw (c.as_slice.ensures.keys, c.assumptions.ensures.value, c.deref.ensures.value)
                at c.in_ok-others-in-Sat.ensures,
            c.declared-count.ensures.fit full.items others.items closed.characters,
          );
      knows = e.knows others;
      rest = e.rest;
      store = e.store;
    }

pub returns-in_ok-core-in-Unsat : goal.returns-in_ok-core-in-Unsat
returns-in_ok-core-in-Unsat c =
    let e = c.requires.knows in
    record {
      completed = subst
          (λ solved. IsCompleted c.args.decider.now c.args.stack.now c.args.evidence.now solved
          (solution.Unsat c.in-Unsat.id c.in_ok-core-in-Unsat.core))
          (sym c.in-Unsat.is) (refl, c.in_ok-core-in-Unsat.ensures);
      knows = record { inside = e.inside; taken = e.taken; words = e.words; declared = e.declared };
      rest = refl;
      store = refl;
    }

pub returns-in_err-core-in-Unsat : goal.returns-in_err-core-in-Unsat
returns-in_err-core-in-Unsat c =
    let x = c.from_residual-in_err-core-in-Unsat in
    record {
      completed = IfOk-from_err x.result _ x.ensures.0;
      knows = IfOk-from_err x.result _ x.ensures.0;
      rest = refl;
      store = refl;
    }

pub returns-in-Spent : goal.returns-in-Spent
returns-in-Spent c =
    let e = c.requires.knows in
    record {
      completed = subst
          (λ solved. IsCompleted c.args.decider.now c.args.stack.now c.args.evidence.now solved solution.Spent)
          (sym c.in-Spent.is) tt;
      knows = record { inside = e.inside; taken = e.taken; words = e.words; declared = e.declared };
      rest = refl;
      store = refl;
    }
