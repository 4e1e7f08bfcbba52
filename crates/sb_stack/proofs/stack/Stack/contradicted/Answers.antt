use Rattle.std.proofs.Common.{sym, ap, ◌∙◌}
use Rattle.sb_script.specs.Replies.{contradicted}
use Rattle.sb_script.specs.State.{refuted}
use Rattle.sb_stack.specs.Stacked.{Stacked, state_of, mode_in, live_constants}
use Rattle.sb_stack.proofs.Changes.{same_step}
use Rattle.sb_stack.proofs.stack.Stack.contradicted.Goals as goal

pub returns-in-Unsat : goal.returns-in-Unsat
returns-in-Unsat c =
    let k = c.args.self.now in
    let s = state_of k in
    same_step c.contradicting.result _ (contradicted (refuted k.unsat_assumptions) s) s c.contradicting.ensures
    (ap (λ m. contradicted (mode_in (live_constants k) k.words k.truths k.unsat_assumptions m) s)
    (ap (λ (k : Stacked). k.mode) (sym c.self.view_is) ∙ c.in-Unsat.is))
