use Rattle.std.proofs.Common.{List, drop}
use Rattle.sb_lang.specs.Regex.{Regex}
use Rattle.sb_regex.specs.Numbered.{Extends}
use Rattle.sb_graph.specs.Queue.{Entry}
use Rattle.sb_graph.specs.Edges.{Puts}
use Rattle.sb_graph.proofs.turn.put_edges.Given as goal

abbrev pub invariant-loop-character : goal.invariant-loop-character
invariant-loop-character l =
    record {
      extends : Extends l.fn.arena l.arena;
      puts : (later : List Regex) (end : List Entry) → Extends l.arena later
          → Puts later l.place (drop l.character-index l.edges) l.queue end → Puts later l.place l.edges l.fn.queue end;
    }
