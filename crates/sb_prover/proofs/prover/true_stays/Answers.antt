use Rattle.sb_prover.proofs.Words.{backs-grown}
use Rattle.sb_prover.proofs.prover.true_stays.Goals as goal

pub returns-clause-goes_on : goal.returns-clause-goes_on
returns-clause-goes_on c = λ before now x e goes t. record {
  kept = t.kept;
  backs = t.backs;
  sound = c.continued_stays_sound.ensures before now t.kept goes t.sound;
  counted = t.counted;
}

pub returns-clause-grown : goal.returns-clause-grown
returns-clause-grown c = λ asked ts x y e grows below t. record {
  kept = t.kept;
  backs = backs-grown x.arena y.arena x.graph.memo y.graph.memo e t.kept grows.more.extends grows.more.derivatives below t.backs;
  sound = t.sound;
  counted = t.counted;
}
