use Rattle.std.proofs.Common.{option_map, option_and_then, sym, ap, ◌∙◌}
use Rattle.sb_reader.specs.Forms.{shapes_in}
use Rattle.sb_script.specs.Options.{get_option}
use Rattle.sb_stack.specs.Commands.{keyword_in}
use Rattle.sb_stack.proofs.Shapes.{keyword_of_only}
use Rattle.sb_stack.proofs.command.asked_option_shape.Goals as goal

pub returns-in-Some-keyword_in : goal.returns-in-Some-keyword_in
returns-in-Some-keyword_in c =
    ap (option_map get_option) c.in-Some-keyword_in.ensures
    ∙ ap (option_and_then (λ f. option_map get_option (keyword_in f))) c.in-Some.ensures
    ∙ sym (keyword_of_only get_option (shapes_in c.args.arguments))

pub returns-in-None-keyword_in : goal.returns-in-None-keyword_in
returns-in-None-keyword_in c =
    ap (option_map get_option) c.in-None-keyword_in.ensures
    ∙ ap (option_and_then (λ f. option_map get_option (keyword_in f))) c.in-Some.ensures
    ∙ sym (keyword_of_only get_option (shapes_in c.args.arguments))
