use Rattle.sb_decide.proofs.Words.{take, AreFound, Searches}
use Rattle.sb_decide.proofs.decide.least_words.Given as goal

abbrev pub invariant-loop-serial : goal.invariant-loop-serial
invariant-loop-serial l =
    AreFound l.store.arena l.fn.members l.fn.constants l.fn.words (take l.serial-index l.fn.changed) l.found.items
    × Searches l.fn.members l.fn.store l.store l.roots.items
