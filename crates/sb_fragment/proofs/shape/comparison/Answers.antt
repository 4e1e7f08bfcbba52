use Rattle.std.proofs.Common.{sym, ◌∙◌}
use Rattle.sb_fragment.proofs.Structured.{none_alone, one_alone, some_compared, words_compared}
use Rattle.sb_fragment.proofs.shape.comparison.Goals as goal

pub returns-in_default : goal.returns-in_default
returns-in_default c =
    none_alone c.args.distinct c.args.table.now c.args.arguments.now c.in_default.len_below

pub returns-in-Bool : goal.returns-in-Bool
returns-in-Bool c =
    one_alone c.args.distinct c.args.table.now c.args.arguments.now c.first-item.result c.in-len1-up.len_at_least
    c.first-item.is (sym (c.in-Bool.ensures)) (sym c.if-is_empty.true ∙ c.is_empty.ensures)

pub returns-in-Bool-2 : goal.returns-in-Bool-2
returns-in-Bool-2 c =
    some_compared c.args.distinct c.args.table.now c.args.arguments.now c.first-item.result c.in-len1-up.len_at_least
    c.first-item.is (sym c.in-Bool-2.ensures) (sym c.if-is_empty.false ∙ c.is_empty.ensures)

pub returns-in-String : goal.returns-in-String
returns-in-String c =
    words_compared c.args.distinct c.args.table.now c.args.arguments.now c.first-item.result c.in-len1-up.len_at_least
    c.first-item.is (sym c.in-String.ensures)
