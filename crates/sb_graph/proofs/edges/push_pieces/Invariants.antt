use Rattle.sb_regex.specs.Numbered.{Extends}
use Rattle.sb_graph.specs.Edges.{ArePushed}
use Rattle.sb_graph.proofs.edges.push_pieces.Given as goal

abbrev pub invariant-loop-character : goal.invariant-loop-character
invariant-loop-character l =
    record {
      extends : Extends l.fn.arena l.arena;
      pushed : ArePushed l.arena l.pieces l.rest l.character-index l.fn.edges.items l.edges.items;
    }
