use Rattle.sb_fragment.proofs.measures.Measures.is_structure.Goals as goal

pub returns-clause-ok : goal.returns-clause-ok
returns-clause-ok c = c.in_ok-measure.ensures.ok.structure
