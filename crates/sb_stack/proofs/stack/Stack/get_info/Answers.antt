use Rattle.std.proofs.Common.{◌≡◌, Bool, List, ℕ, Option, Some, None, option_map, if◌then◌else◌, refl, sym, ap, ◌∙◌}
use Rattle.sb_script.specs.Names.{is_name, found_in}
use Rattle.sb_script.specs.Options.{info_texts, reason_unknown}
use Rattle.sb_script.specs.State.{State}
use Rattle.sb_script.specs.Steps.{Step, answers, is_unsupported, line}
use Rattle.sb_stack.specs.Stacked.{state_of}
use Rattle.sb_stack.proofs.Replying.{said_as}
use Rattle.sb_stack.proofs.stack.Stack.get_info.Goals as goal

-- what is said, by its text and by its line
abbrev by_text : State → Option (List ℕ) → Step
by_text s (Some text) = answers (line text) s
by_text s None = is_unsupported s

abbrev by_line : State → Option (List ℕ) → Step
by_line s (Some text) = answers text s
by_line s None = is_unsupported s

lined : (s : State) (o : Option (List ℕ)) → by_text s o ≡ by_line s (option_map line o)
lined s (Some text) = refl
lined s None = refl

abbrev by_key : State → Option (List ℕ) → Bool → Step
by_key s o asks_why = if asks_why then reason_unknown s.mode s else by_text s o

pub returns-in-Some : goal.returns-in-Some
returns-in-Some c =
    let s = state_of c.args.self.now in
    let key = c.args.key.now in
    said_as _ c.in-Some.line.now c.from_slice.result s
    (ap (by_key s (found_in info_texts key)) (sym (c.if-eq.ensures ∙ ap (is_name key) c.as_slice.ensures))
    ∙ lined s (found_in info_texts key) ∙ ap (by_line s) (sym c.in-Some.ensures))
    c.from_slice.ensures.items

pub returns-in-None : goal.returns-in-None
returns-in-None c =
    let s = state_of c.args.self.now in
    let key = c.args.key.now in
    said_as _ _ c.unsupported_line.result s
    (ap (by_key s (found_in info_texts key)) (sym (c.if-eq.ensures ∙ ap (is_name key) c.as_slice.ensures))
    ∙ lined s (found_in info_texts key) ∙ ap (by_line s) (sym c.in-None.ensures))
    c.unsupported_line.ensures
