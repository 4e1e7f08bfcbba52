use Rattle.std.proofs.Common.{◌∙◌}
use Rattle.sb_fragment.proofs.FittingFacts.{expression_fit, literal_fit}
use Rattle.sb_fragment.proofs.fitting.fit_pattern.Goals as goal

pub returns-in-Expression : goal.returns-in-Expression
returns-in-Expression c = λ ts h.
    c.fit_regex.ensures
    ∙ expression_fit ts c.args.measures.now c.in-Expression.id c.number.result _ c.args.pattern h c.in-Expression.is
    c.number.ensures c.requires

pub returns-in-Word : goal.returns-in-Word
returns-in-Word c = λ ts h.
    c.fit_regex-in-Word.ensures
    ∙ literal_fit ts c.args.measures.now c.in-Word.id c.number-in-Word.result _ c.literal_of.result c.args.pattern h
    c.in-Word.is c.number-in-Word.ensures c.requires c.literal_of.ensures
