use Rattle.std.proofs.Common.{◌≡◌, false, map, take}
use Rattle.sb_term.specs.Descending.{known_at}
use Rattle.sb_atoms.proofs.truth.truths_known.Given as goal

abbrev pub invariant-loop-id : goal.invariant-loop-id
invariant-loop-id l = l.found.items ≡ map (known_at false l.known.entries) (take l.id-index l.ids)
