use Rattle.std.proofs.Common.{Bool, if◌then◌else◌, sym, ap, ◌∙◌}
use Rattle.sb_script.specs.Errors.{assumptions_not_enabled}
use Rattle.sb_script.specs.Replies.{contradicted}
use Rattle.sb_script.specs.State.{State}
use Rattle.sb_script.specs.Steps.{Step, fails_by}
use Rattle.sb_stack.specs.Stacked.{Stacked, state_of}
use Rattle.sb_stack.proofs.Changes.{same_step}
use Rattle.sb_stack.proofs.stack.Stack.get_unsat_assumptions.Goals as goal

-- what is answered, by the option
abbrev by_option : State → Bool → Step
by_option s on = if on then contradicted s.mode s else fails_by assumptions_not_enabled s

pub returns-then-not-self : goal.returns-then-not-self
returns-then-not-self c =
    let s = state_of c.args.self.now in
    same_step c.fail.result _ (fails_by assumptions_not_enabled s) s c.fail.ensures
    (ap (by_option s)
    (ap (λ (k : Stacked). k.produce_unsat_assumptions) (sym c.self.view_is) ∙ c.if-not-self.true))

pub returns : goal.returns
returns c =
    let s = state_of c.args.self.now in
    same_step c.contradicted.result _ (contradicted s.mode s) s c.contradicted.ensures
    (ap (by_option s)
    (ap (λ (k : Stacked). k.produce_unsat_assumptions) (sym c.self.view_is) ∙ c.if-not-self.false))
