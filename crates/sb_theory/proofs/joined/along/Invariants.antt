use Rattle.sb_theory.proofs.Words.{take, Extends, regex_at}
use Rattle.sb_lang.specs.Derivative.{nd_along}
use Rattle.sb_regex.specs.Numbered.{Names}
use Rattle.sb_plain.specs.Memory.{IsRight}
use Rattle.sb_theory.proofs.joined.along.Given as goal

abbrev pub invariant-loop-character : goal.invariant-loop-character
invariant-loop-character l =
    Names l.arena l.rest (nd_along (regex_at l.fn.arena l.fn.regex) (take l.character-index l.characters))
    × Extends l.fn.arena l.arena
    × IsRight l.arena l.plain
