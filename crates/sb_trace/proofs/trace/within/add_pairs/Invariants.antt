use Rattle.std.proofs.Common.{◌-◌, ◌<◌}
use Rattle.sb_deriv.specs.Pieces.{end_of_characters}
use Rattle.sb_trace.specs.Pairing.{PairsGrewTo, AreMetBelow, AddsTargets, StandsAt}
use Rattle.sb_trace.proofs.trace.within.add_pairs.Given as goal

abbrev pub decreases-loop-character : goal.decreases-loop-character
decreases-loop-character l = end_of_characters - l.character

abbrev pub invariant-loop-character : goal.invariant-loop-character
invariant-loop-character l = record {
  grew : PairsGrewTo l.fn.pairs.keys l.pairs.keys;
  first : l.character < end_of_characters → StandsAt l.first l.i l.character;
  second : l.character < end_of_characters → StandsAt l.second l.j l.character;
  met : AreMetBelow l.arena l.first l.second l.pairs.keys l.character;
  only : AddsTargets l.first l.second l.fn.pairs.keys l.pairs.keys;
}
