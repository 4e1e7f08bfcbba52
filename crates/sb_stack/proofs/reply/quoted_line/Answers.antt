use Rattle.std.proofs.Common.{◌∷◌, ◌++◌, [], ap, ◌∙◌}
use Rattle.sb_stack.proofs.Printing.{two_behind}
use Rattle.sb_stack.proofs.reply.quoted_line.Goals as goal

pub returns : goal.returns
returns c =
    let m = c.args.bytes.now in
    c.in_ok-extend_from_slice-2.ensures.items
    ∙ ap (λ r. r ++ (34 ∷ 10 ∷ []))
    (c.in_ok-extend_from_slice.ensures.items ∙ ap (λ r. r ++ m) c.in_ok-text.ensures.items)
    ∙ ap (λ r. 34 ∷ r) (two_behind 34 10 m)
