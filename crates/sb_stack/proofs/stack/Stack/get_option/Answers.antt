use Rattle.std.proofs.Common.{List, ℕ, Option, Some, None, sym, ap, ◌∙◌}
use Rattle.sb_script.specs.State.{State}
use Rattle.sb_script.specs.Steps.{Step, answers, is_unsupported, line}
use Rattle.sb_stack.specs.Stacked.{state_of}
use Rattle.sb_stack.proofs.Changes.{same_step}
use Rattle.sb_stack.proofs.Replying.{said_as}
use Rattle.sb_stack.proofs.stack.Stack.get_option.Goals as goal

-- what is said of an option, where it is kept
abbrev by_text : State → Option (State → List ℕ) → Step
by_text s (Some text) = answers (line (text s)) s
by_text s None = is_unsupported s

pub returns-in-Some : goal.returns-in-Some
returns-in-Some c =
    let s = state_of c.args.self.now in
    said_as _ _ c.truth_line.result s
    (ap (by_text s) (sym c.in-Some.ensures.read) ∙ ap (λ text. answers (line text) s) (sym c.value_of.ensures))
    c.truth_line.ensures

pub returns-in-None : goal.returns-in-None
returns-in-None c =
    let s = state_of c.args.self.now in
    same_step c.leave_out.result _ _ s c.leave_out.ensures (ap (by_text s) (sym c.in-None.ensures.read))
