use Rattle.std.proofs.Common.{sym, ap, ◌∙◌, arith}
use Rattle.std.proofs.lemmas.Result.{IfOk-from_err, on_ok_weaker}
use Rattle.sb_rulebook.specs.Lines.{range_text, ranges_text}
use Rattle.sb_proof.proofs.FieldFacts.{ends, joined_map}
use Rattle.std.proofs.lemmas.Grind.{common_steps}
use Rattle.sb_proof.proofs.fields.put_ranges.Goals as goal

pub returns : goal.returns
returns c =
    on_ok_weaker c.put_next_ranges.result
    (λ e. ends _ _ _ c.in_ok-put_range.ensures e
    (joined_map 44 range_text (range_text c.in-Some.first.now) c.in-Some.others.now
    ∙ ap ranges_text (sym c.in-Some.ensures.cases.0)))
    c.put_next_ranges.ensures

pub returns-in_default : goal.returns-in_default
returns-in_default c = grind (arith, common_steps)

pub returns-in_err-put_range : goal.returns-in_err-put_range
returns-in_err-put_range c = IfOk-from_err c.from_residual.result _ c.from_residual.ensures.0
