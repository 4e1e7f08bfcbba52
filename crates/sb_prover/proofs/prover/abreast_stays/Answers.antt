use Rattle.sb_prover.proofs.Words.{backs-grown, regexes_kept}
use Rattle.sb_prover.proofs.prover.abreast_stays.Goals as goal

pub returns : goal.returns
returns c = λ ts x y proving p grows h. record {
  rests = h.rests;
  begun = h.begun;
  first = h.first;
  format = h.format;
  counted = h.counted;
  backs = backs-grown x.arena y.arena x.graph.memo y.graph.memo proving.evidence p.kept grows.more.extends grows.more.derivatives
      h.regexes h.backs;
  regexes = regexes_kept x.arena y.arena proving.evidence.atoms grows.more.extends h.regexes;
}
