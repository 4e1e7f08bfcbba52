use Rattle.sb_graph.proofs.Ends.{marked_has_no_word}
use Rattle.sb_graph.proofs.laws.marked_has_no_word.Goals as goal

pub returns : goal.returns
returns c = λ rs g n h m. marked_has_no_word c.nullable_has_empty_word.ensures c.derivative_along_has_rests.ensures rs
    g.dead n h.barren m
