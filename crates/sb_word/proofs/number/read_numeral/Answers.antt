use Rattle.std.proofs.Common.{sym, ◌∙◌}
use Rattle.sb_word.proofs.NumeralLemmas.{value_of_numeral, no_value}
use Rattle.sb_word.proofs.number.read_numeral.Goals as goal

pub returns-then-is_numeral : goal.returns-then-is_numeral
returns-then-is_numeral c =
    value_of_numeral c.args.bytes.now c.number_of.result (sym c.is_numeral.ensures ∙ c.if-is_numeral.true)
    c.number_of.ensures

pub returns-else-is_numeral : goal.returns-else-is_numeral
returns-else-is_numeral c = no_value c.args.bytes.now (sym c.is_numeral.ensures ∙ c.if-is_numeral.false)
