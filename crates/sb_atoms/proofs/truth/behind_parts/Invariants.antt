use Rattle.std.proofs.Common.{take}
use Rattle.sb_regex.specs.Numbered.{regex_at, Extends}
use Rattle.sb_plain.specs.Memory.{IsRight}
use Rattle.sb_problem.specs.Parts.{parts_in}
use Rattle.sb_atoms.specs.Truths.{joined_word, IsBehind}
use Rattle.sb_atoms.proofs.truth.behind_parts.Given as goal

abbrev pub invariant-loop-part : goal.invariant-loop-part
invariant-loop-part l =
    IsBehind l.arena (regex_at l.fn.arena l.fn.regex) (joined_word l.values (take l.part-index (parts_in l.parts)))
    l.rest
    × Extends l.fn.arena l.arena
    × IsRight l.arena l.plain
