-- Private: the options of the code, as the definitions have them.
use Rattle.std.specs.Prelude.{ℕ, List, filter}
use Rattle.sb_reader.specs.Forms.{Form}
use Rattle.sb_script.specs.Names.{Name}
use Rattle.sb_script.specs.Brought.{an_option, is_brought}
use Rattle.sb_script.specs.State.{State}
use Rattle.sb_script.specs.Steps.{Step}
use Rattle.sb_script.specs.Options as meaning
use Rattle.sb_stack.specs.declared.option.Setting.{Setting}
use Rattle.sb_stack.specs.declared.option.Setting.TheVariants as code

-- what a value makes of the state
abbrev pub set_in : Setting → Form → State → Step
set_in code.PrintSuccess = meaning.set_print_success
set_in code.ProduceModels = meaning.set_produce_models
set_in code.ProduceAssumptions = meaning.set_produce_assumptions
set_in code.GlobalDeclarations = meaning.set_global_declarations

-- the text of the value
abbrev pub text_in : Setting → State → List ℕ
text_in code.PrintSuccess = λ s. meaning.truth_text s.options.print_success
text_in code.ProduceModels = λ s. meaning.truth_text s.options.produce_models
text_in code.ProduceAssumptions = λ s. meaning.truth_text s.options.produce_unsat_assumptions
text_in code.GlobalDeclarations = λ s. meaning.truth_text s.options.global_declarations

-- the options that are kept, by keyword
abbrev pub kept_settings : List (Name × (Form → State → Step))
kept_settings = filter (λ row. is_brought (an_option row.0)) meaning.settings

abbrev pub kept_texts : List (Name × (State → List ℕ))
kept_texts = filter (λ row. is_brought (an_option row.0)) meaning.option_texts
