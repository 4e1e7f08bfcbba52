use Rattle.std.proofs.Common.{◌≡◌, take}
use Rattle.std.specs.List.{flat_map}
use Rattle.sb_atoms.specs.GateClauses.{clause_of}
use Rattle.sb_atoms.proofs.gates.ordered.Given as goal

abbrev pub invariant-loop-clause : goal.invariant-loop-clause
invariant-loop-clause l = l.found.items ≡ flat_map clause_of (take l.clause-index l.said)
