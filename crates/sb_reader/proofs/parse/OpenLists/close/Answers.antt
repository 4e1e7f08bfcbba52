use Rattle.std.proofs.Common.{◌-◌, refl, ap, ◌∙◌}
use Rattle.sb_reader.proofs.Laying.{close_laid}
use Rattle.sb_reader.proofs.parse.OpenLists.close.Goals as goal

pub returns : goal.returns
returns c = λ forms outer laid.
    close_laid c.args.self.now _ forms outer c.in-Some.mark c.in_ok-count.count c.in_ok-length.length c.is_empty.result
    laid c.in-Some.ensures.items (c.in_ok-count.ensures ∙ ap (λ n. n - c.in-Some.mark.node - 1) c.len.ensures)
    (c.in_ok-length.ensures ∙ ap (λ n. n - c.in-Some.mark.byte) c.len-2.ensures) refl refl c.is_empty.ensures
