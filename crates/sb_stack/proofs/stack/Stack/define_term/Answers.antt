use Rattle.std.proofs.Common.{option_copied, Ok, ap, refl, ◌∙◌}
use Rattle.sb_term.specs.Numbered.{term_at}
use Rattle.sb_term.specs.Symbols.{sort_in}
use Rattle.sb_script.specs.Errors.{already_declared}
use Rattle.sb_script.specs.Steps.{fails_by}
use Rattle.sb_stack.specs.Defining.{defines_as, sorts_in}
use Rattle.sb_stack.specs.Stacked.{state_of}
use Rattle.sb_stack.proofs.Changes.{same_step}
use Rattle.sb_stack.proofs.Refusals.{name_first_of_term}
use Rattle.sb_stack.proofs.Replying.{unchanged}
use Rattle.sb_stack.proofs.stack.Stack.define_term.Goals as goal

pub returns-in-Some : goal.returns-in-Some
returns-in-Some c =
    let k = c.args.self.now in
    let s = state_of k in
    let body = term_at k.table c.args.body in
    let sorts = sorts_in c.args.parameters.now in
    unchanged _ c.fail_with_name.result k k refl
    (same_step c.fail_with_name.result _ (fails_by (already_declared c.in-Some.refused.now) s) s c.fail_with_name.ensures
    (ap (λ o. defines_as (option_copied o) (sort_in c.args.sort) c.args.name.now sorts (Ok body) s) c.in-Some.is
    ∙ name_first_of_term c.in-Some.refused.now (sort_in c.args.sort) c.args.name.now sorts body s))
