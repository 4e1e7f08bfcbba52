use Rattle.std.proofs.Common.{◌∷◌, ◌++◌, [], ap, ◌∙◌}
use Rattle.sb_script.specs.Names.{name_in_text}
use Rattle.sb_stack.proofs.Printing.{three_behind}
use Rattle.sb_stack.proofs.reply.error_line_with_name.Goals as goal

pub returns : goal.returns
returns c =
    let m = c.args.message.now in
    let n = name_in_text c.args.name.now in
    c.in_ok-extend_from_slice-2.ensures.items
    ∙ ap (λ r. r ++ (34 ∷ 41 ∷ 10 ∷ []))
    (c.in_ok-push_name_in_text.ensures
    ∙ ap (λ r. r ++ n) (c.in_ok-extend_from_slice.ensures.items ∙ ap (λ r. r ++ m) c.in_ok-text.ensures.items))
    ∙ ap (λ r. 40 ∷ 101 ∷ 114 ∷ 114 ∷ 111 ∷ 114 ∷ 32 ∷ 34 ∷ r) (three_behind 34 41 10 (m ++ n))
