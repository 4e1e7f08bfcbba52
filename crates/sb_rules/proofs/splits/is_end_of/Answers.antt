use Rattle.std.proofs.Common.{sym, ◌∙◌}
use Rattle.sb_regex.specs.Numbered.{regex_at}
use Rattle.sb_rules.proofs.Parting.{end_at, no_end}
use Rattle.sb_rules.proofs.splits.is_end_of.Goals as goal

pub returns-then-not-is_empty : goal.returns-then-not-is_empty
returns-then-not-is_empty c =
    no_end c.args.positive c.args.pieces.now (regex_at c.args.arena.now c.args.regex)
    (sym c.is_empty.ensures ∙ c.if-not-is_empty.true)

pub returns : goal.returns
returns c =
    c.has_empty_word.ensures
    ∙ end_at c.args.positive c.args.pieces.now (regex_at c.args.arena.now c.args.regex)
    (sym c.is_empty.ensures ∙ c.if-not-is_empty.false)
