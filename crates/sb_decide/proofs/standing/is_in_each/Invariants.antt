use Rattle.sb_decide.proofs.Words.{take, IsInEach, RegexesGrow}
use Rattle.sb_decide.proofs.standing.is_in_each.Given as goal

abbrev pub invariant-loop-place : goal.invariant-loop-place
invariant-loop-place l =
    IsInEach l.store.arena l.fn.members (take l.place-index l.fn.places) l.fn.word
    × RegexesGrow l.fn.store l.store
