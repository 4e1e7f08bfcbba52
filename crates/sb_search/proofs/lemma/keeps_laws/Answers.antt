use Rattle.sb_search.proofs.lemma.keeps_laws.Goals as goal

pub returns : goal.returns
returns g c = record {
  stands_longer = g.met.T.Theory.stands_longer;
  measure_longer = g.met.T.Theory.measure_longer;
  none = g.met.T.Theory.puts_none;
  both = g.met.T.Theory.puts_both;
  learned = g.met.T.Theory.puts_learned;
  gate = g.met.T.Theory.puts_gate;
}
