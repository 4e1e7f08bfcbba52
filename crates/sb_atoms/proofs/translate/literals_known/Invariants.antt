use Rattle.std.proofs.Common.{◌≡◌, Some, None, map, take}
use Rattle.sb_rulebook.specs.Parts.{together}
use Rattle.sb_term.specs.Descending.{known_at}
use Rattle.sb_atoms.proofs.translate.literals_known.Given as goal

abbrev pub invariant-loop-id : goal.invariant-loop-id
invariant-loop-id l = Some l.literals.items ≡ together (map (known_at None l.known.entries) (take l.id-index l.ids))
