use Rattle.std.proofs.Common.{sym, ap, ◌∙◌}
use Rattle.sb_script.specs.Verdicts.{settled}
use Rattle.sb_stack.specs.declared.verdict.Verdict.TheVariants as verdict
use Rattle.sb_stack.specs.Stacked.{Stacked, live_constants, state_of}
use Rattle.sb_stack.specs.Steps.{verdict_in, found}
use Rattle.sb_stack.proofs.stack.Stack.settle.Goals as goal

pub returns-in-Sat-clause-state : goal.returns-in-Sat-clause-state
returns-in-Sat-clause-state c =
    let old = c.args.self.now in
    ap (λ (k : Stacked). settled (verdict_in (live_constants k) (verdict.Sat c.in-Sat.words c.in-Sat.truths)) (state_of k)) c.self.view_is
    ∙ ap (λ v. settled (verdict_in (live_constants old) v) (state_of old)) (sym c.in-Sat.is)

pub returns-in-Sat-clause-kept : goal.returns-in-Sat-clause-kept
returns-in-Sat-clause-kept c =
    ap (λ (k : Stacked). found (verdict.Sat c.in-Sat.words c.in-Sat.truths) k) c.self.view_is ∙ ap (λ v. found v c.args.self.now) (sym c.in-Sat.is)

pub returns-in-Unsat-clause-state : goal.returns-in-Unsat-clause-state
returns-in-Unsat-clause-state c =
    let old = c.args.self.now in
    ap (λ (k : Stacked). settled (verdict_in (live_constants k) (verdict.Unsat c.in-Unsat.assumptions)) (state_of k))
    c.self.view_is
    ∙ ap (λ v. settled (verdict_in (live_constants old) v) (state_of old)) (sym c.in-Unsat.is)

pub returns-in-Unsat-clause-kept : goal.returns-in-Unsat-clause-kept
returns-in-Unsat-clause-kept c =
    ap (λ (k : Stacked). found (verdict.Unsat c.in-Unsat.assumptions) k) c.self.view_is
    ∙ ap (λ v. found v c.args.self.now) (sym c.in-Unsat.is)

pub returns-in-Unknown-clause-state : goal.returns-in-Unknown-clause-state
returns-in-Unknown-clause-state c =
    let old = c.args.self.now in
    ap (λ (k : Stacked). settled (verdict_in (live_constants k) verdict.Unknown) (state_of k)) c.self.view_is
    ∙ ap (λ v. settled (verdict_in (live_constants old) v) (state_of old)) (sym c.in-Unknown.is)

pub returns-in-Unknown-clause-kept : goal.returns-in-Unknown-clause-kept
returns-in-Unknown-clause-kept c =
    ap (λ (k : Stacked). found verdict.Unknown k) c.self.view_is ∙ ap (λ v. found v c.args.self.now) (sym c.in-Unknown.is)

pub returns-in-Outside-clause-state : goal.returns-in-Outside-clause-state
returns-in-Outside-clause-state c =
    let old = c.args.self.now in
    ap (λ (k : Stacked). settled (verdict_in (live_constants k) verdict.Outside) (state_of k)) c.self.view_is
    ∙ ap (λ v. settled (verdict_in (live_constants old) v) (state_of old)) (sym c.in-Outside.is)

pub returns-in-Outside-clause-kept : goal.returns-in-Outside-clause-kept
returns-in-Outside-clause-kept c =
    ap (λ (k : Stacked). found verdict.Outside k) c.self.view_is ∙ ap (λ v. found v c.args.self.now) (sym c.in-Outside.is)
