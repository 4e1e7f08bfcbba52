use Rattle.sb_theory.proofs.Words.{◌∙◌, sym}
use Rattle.sb_theory.proofs.Verdicts.{wanted_at}
use Rattle.sb_theory.proofs.strings.judging.open_atom.Goals as goal

pub returns-in-None : goal.returns-in-None
returns-in-None c = record {
  unset = sym c.value.ensures.value ∙ c.in-None.is;
  listed = wanted_at c.args.atoms.now c.loop-atom.atom-index 0 c.loop-atom-test.true;
}
