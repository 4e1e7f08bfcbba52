use Rattle.sb_term.specs.Numbered.{term_at}
use Rattle.sb_fragment.proofs.MeasureFacts.{literal_is}
use Rattle.sb_fragment.proofs.measures.Measures.pattern.Goals as goal

pub returns-in_ok-measure-in-Word-clause-ok : goal.returns-in_ok-measure-in-Word-clause-ok
returns-in_ok-measure-in-Word-clause-ok c =
    rw (c.in-Word.is, c.literal_of.ensures)
    (literal_is (term_at c.args.table.now c.in-Word.id) c.in_ok-measure-in-Word.measure
    c.in_ok-measure-in-Word.ensures.ok)
