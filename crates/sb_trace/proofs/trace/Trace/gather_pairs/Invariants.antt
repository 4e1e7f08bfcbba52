use Rattle.std.proofs.Common.{◌≡◌, ◌-◌, ◌^◌, ◌≤◌}
use Rattle.std.specs.List.{count_by}
use Rattle.sb_lang.specs.Regex.{Regex}
use Rattle.sb_trace.specs.Reaching.{is_unexpanded}
use Rattle.sb_trace.specs.Closing.{GoesOn}
use Rattle.sb_trace.specs.Pairing.{PairsGrewTo, ArePairsKnown, ArePairsReached, PairsLeadUpTo, ArePartsOf, HavePartsUpTo}
use Rattle.sb_trace.proofs.trace.Trace.gather_pairs.Given as goal

abbrev pub decreases-loop-place : goal.decreases-loop-place
decreases-loop-place l = 2 ^ 64 - l.place

abbrev pub invariant-loop-place : goal.invariant-loop-place
invariant-loop-place l = record {
  goes : GoesOn l.fn.arena l.arena l.fn.graph l.graph l.self l.self;
  grew : PairsGrewTo l.fn.pairs.keys l.pairs.keys;
  known : ArePairsKnown l.arena l.pairs.keys;
  led : PairsLeadUpTo l.arena l.pairs.keys l.place;
  gathered : HavePartsUpTo l.parts.keys l.pairs.keys l.place;
  few : l.lacking ≤ l.most;
  counted : l.lacking ≡ count_by (is_unexpanded l.self) l.parts.keys;
  parts : ArePartsOf l.pairs.keys l.parts.keys;
  reached : (r g : Regex) → ArePairsReached l.fn.arena r g l.fn.pairs.keys → ArePairsReached l.arena r g l.pairs.keys;
}
