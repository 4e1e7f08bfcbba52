use Rattle.sb_theory.proofs.Words.{map, take, RegexesGrow, regex_at}
use Rattle.sb_lang.specs.Derivative.{nd_along}
use Rattle.sb_regex.specs.Numbered.{Names}
use Rattle.sb_proof.specs.Lines.{piece_in}
use Rattle.sb_theory.specs.Memberships.{joined_word}
use Rattle.sb_theory.proofs.joined.contains_joined.Given as goal

abbrev pub invariant-loop-piece : goal.invariant-loop-piece
invariant-loop-piece l =
    Names l.store.arena l.rest
    (nd_along (regex_at l.fn.store.arena l.fn.regex) (joined_word l.words (map piece_in (take l.piece-index l.pieces))))
    × RegexesGrow l.fn.store l.store
