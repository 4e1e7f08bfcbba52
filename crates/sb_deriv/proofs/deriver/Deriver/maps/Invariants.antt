use Rattle.std.proofs.Common.{◌≡◌, map, take}
use Rattle.sb_deriv.specs.Choices.{map_of}
use Rattle.sb_deriv.proofs.deriver.Deriver.maps.Given as goal

abbrev pub invariant-loop-part : goal.invariant-loop-part
invariant-loop-part l = l.maps.items ≡ map (map_of l.self) (take l.part-index l.parts)
