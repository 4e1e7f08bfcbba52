use Rattle.sb_clash.proofs.Words.{length, take, Extends, HaveRegexesBelow}
use Rattle.sb_clash.proofs.AskedFacts.{IsAskedSofar}
use Rattle.sb_clash.proofs.asking.meet.Given as goal

abbrev pub invariant-loop-literal : goal.invariant-loop-literal
invariant-loop-literal l = Extends l.fn.arena l.arena × HaveRegexesBelow (length l.arena) l.atoms
    × IsAskedSofar l.arena l.atoms (take l.literal-index l.literals) l.ids.items
