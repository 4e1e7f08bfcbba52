use Rattle.sb_decide.proofs.Words.{◌<◌, length, take, All, ArePut, OthersSettled}
use Rattle.sb_decide.proofs.closing.put_found.Given as goal

abbrev pub invariant-loop-serial : goal.invariant-loop-serial
invariant-loop-serial l =
    ArePut l.fn.constants l.constants l.fn.words l.words (take l.serial-index l.serials) l.found
    × OthersSettled l.changed.items l.constants
    × All (λ other. other.0 < length l.fn.constants) l.changed.items
