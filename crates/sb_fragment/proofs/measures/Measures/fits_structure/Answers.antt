use Rattle.sb_fragment.proofs.measures.Measures.fits_structure.Goals as goal

pub returns-clause-ok : goal.returns-clause-ok
returns-clause-ok c = c.in_ok-measure.ensures.ok.fitting
