use Rattle.std.proofs.Common.{true, false, sym, ◌∙◌}
use Rattle.sb_proof.proofs.RowFacts.{last_colon, no_colon}
use Rattle.sb_proof.proofs.read.before_last_colon.Goals as goal

pub returns-then-is_word : goal.returns-then-is_word
returns-then-is_word c =
    sym (last_colon _ c.args.fields.now true c.in-len2-up.len_at_least (sym c.is_word.ensures ∙ c.if-is_word.true))

pub returns-else-is_word : goal.returns-else-is_word
returns-else-is_word c =
    sym (last_colon _ c.args.fields.now false c.in-len2-up.len_at_least (sym c.is_word.ensures ∙ c.if-is_word.false))

pub returns-in_default : goal.returns-in_default
returns-in_default c = no_colon c.args.fields.now c.in_default.len_below
