use Rattle.std.proofs.Common.{◌≡◌, map, take}
use Rattle.sb_problem.specs.Parts as problem
use Rattle.sb_proof.specs.Lines.{piece_in}
use Rattle.sb_atoms.proofs.pieces.pieces_of.Given as goal

abbrev pub invariant-loop-part : goal.invariant-loop-part
invariant-loop-part l = map piece_in l.all.items ≡ map problem.piece_in (take l.part-index l.parts)
