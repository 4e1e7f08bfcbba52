use Rattle.sb_search.proofs.Words.{◌≡◌, ◌∙◌, true, List, refl, sym, subst, IfOk-from_err, Lit, are_negated, divides}
use Rattle.sb_search.proofs.Refuting.{both_negated, refutes_kept}
use Rattle.sb_search.proofs.Steps.{faults_on, faults_stay}
use Rattle.sb_search.proofs.conflict.keep_both.Goals as goal

pub returns : goal.returns
returns g c = record {
  refutes = λ assumptions budget h.
      let is_both = c.from_literals-clause.ensures ∙ c.in_ok-both-2.ensures.both in
      refutes_kept assumptions c.args.engine.now c.keep.new.engine budget budget (g.L.Tape.told c.args.tape.now)
      (g.L.Tape.told c.put_both.new.tape) (record { literals = c.from_literals-clause.result; level = 0 })
      c.in_ok-id.id c.in_ok-id.ensures c.requires
      (subst (λ (ls : List Lit). are_negated assumptions ls ≡ true) (sym is_both)
      (both_negated assumptions c.args.literal.atom c.args.literal.positive h.one h.other))
      (divides c.args.literal h.one c.both.ensures.has_text
      (rw (c.in_ok-id.ensures.kept, is_both, c.in_ok-put_both.ensures.told, c.in_ok-both.ensures.both)));
  counts = c.in_ok-put_both.ensures.counts;
}

pub returns-in_err-both : goal.returns-in_err-both
returns-in_err-both g c = record {
  refutes = IfOk-from_err c.from_residual.result _ c.from_residual.ensures.0;
  counts = faults_stay c.from_residual.result c.from_residual.ensures.1 refl;
}

pub returns-in_err-put_both : goal.returns-in_err-put_both
returns-in_err-put_both g c =
    let r = c.from_residual-in_err-put_both in
    record {
      refutes = IfOk-from_err r.result _ r.ensures.0;
      counts = faults_on r.result _ c.in_err-put_both.was r.ensures.1 refl c.put_both.ensures.counts;
    }

pub returns-in_err-both-2 : goal.returns-in_err-both-2
returns-in_err-both-2 g c =
    let r = c.from_residual-in_err-both-2 in
    record {
      refutes = IfOk-from_err r.result _ r.ensures.0;
      counts = faults_stay r.result r.ensures.1 c.in_ok-put_both.ensures.counts;
    }

pub returns-in_err-id : goal.returns-in_err-id
returns-in_err-id g c =
    let r = c.from_residual-in_err-id in
    record {
      refutes = IfOk-from_err r.result _ r.ensures.0;
      counts = faults_stay r.result r.ensures.1 c.in_ok-put_both.ensures.counts;
    }
