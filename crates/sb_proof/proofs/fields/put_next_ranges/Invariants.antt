use Rattle.std.proofs.Common.{◌≡◌, ◌∷◌, ◌++◌, take}
use Rattle.std.specs.List.{flat_map}
use Rattle.std.specs.String.{string_bytes}
use Rattle.sb_rulebook.specs.Lines.{range_text}
use Rattle.sb_proof.proofs.fields.put_next_ranges.Given as goal

abbrev pub invariant-loop-range : goal.invariant-loop-range
invariant-loop-range l =
    string_bytes l.text ≡ string_bytes l.fn.text
    ++ flat_map (λ r. 44 ∷ range_text r) (take l.range-index l.fn.ranges)
