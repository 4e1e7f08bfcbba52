use Rattle.sb_table_tests.proofs.AtomLemmas.{below_with, formed_with}
use Rattle.sb_table_tests.proofs.searches.add.Goals as goal

pub returns : goal.returns
returns c = record {
  atoms = below_with _ _ _ _ c.add.ensures.grows c.requires.atom c.requires.atoms;
  formed = formed_with _ _ _ c.add.ensures.grows c.requires.well c.requires.formed;
}

pub returns-in_err-add : goal.returns-in_err-add
returns-in_err-add c = record {
  atoms = below_with _ _ _ _ c.add.ensures.grows c.requires.atom c.requires.atoms;
  formed = formed_with _ _ _ c.add.ensures.grows c.requires.well c.requires.formed;
}
