use Rattle.std.proofs.Common.{◌≡◌, true, take}
use Rattle.sb_clauses.specs.Propagation.{has_room_for}
use Rattle.sb_clauses.proofs.clauses.Clauses.have_room_on.Given as goal

abbrev pub invariant-loop-place : goal.invariant-loop-place
invariant-loop-place l = has_room_for l.reserved (take l.place-index l.self) ≡ true
