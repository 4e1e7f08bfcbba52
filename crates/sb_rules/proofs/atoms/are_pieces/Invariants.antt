use Rattle.std.proofs.Common.{◌≡◌, map, drop}
use Rattle.sb_proof.specs.Lines.{piece_in}
use Rattle.sb_rulebook.specs.Atoms.{are_pieces}
use Rattle.sb_rules.specs.Stepping.{may_follow}
use Rattle.sb_rules.proofs.atoms.are_pieces.Given as goal

abbrev pub invariant-loop-piece : goal.invariant-loop-piece
invariant-loop-piece l =
    may_follow l.behind (map piece_in (drop l.piece-index l.pieces)) ≡ are_pieces (map piece_in l.pieces)
