use Rattle.sb_graph.proofs.Carrying.{barren_carried, answers_carried}
use Rattle.sb_graph.proofs.laws.graph_stays.Goals as goal

pub returns : goal.returns
returns c = λ old new g more h. record {
  faithful = c.faithful_stays.ensures old new g.memo more h.faithful;
  barren = barren_carried old new more g.dead h.barren;
  answered = answers_carried old new more g.answers h.answered;
}
