use Rattle.sb_split.proofs.Words.{take, Adds, AreOf, IsWithPaths, declares}
use Rattle.sb_split.proofs.covering.add_paths.Given as goal

abbrev pub invariant-loop-to : goal.invariant-loop-to
invariant-loop-to l = record {
  adds : Adds (declares l.serial) l.fn.arena l.arena l.fn.atoms l.atoms;
  only : AreOf l.fn.atoms l.atoms l.literals.items;
  paths : IsWithPaths l.arena l.atoms l.serial l.from (take l.to-index l.list) l.fn.literals.items l.literals.items;
}
