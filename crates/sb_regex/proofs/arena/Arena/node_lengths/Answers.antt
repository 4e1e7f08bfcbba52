use Rattle.std.proofs.Common.{refl}
use Rattle.sb_class.specs.Ranges.{in_ranges}
use Rattle.sb_lang.specs.Language.{language}
use Rattle.sb_regex.proofs.Measured.{same_lengths, full_set}
use Rattle.sb_regex.proofs.arena.Arena.node_lengths.Goals as goal

pub returns-in-Set : goal.returns-in-Set
unfolding language
returns-in-Set c =
    rw (c.in-Set.is)
    (same_lengths _ _ _
    (c.character.ensures (in_ranges c.in-Set.ranges.items)
    (full_set c.order_tells_apart.ensures c.in-Set.ranges.items c.is_full.result
    (rw (c.as_slice.ensures.value) at c.is_full.ensures)))
    (λ w. refl))

pub returns-in-Path : goal.returns-in-Path
returns-in-Path c = c.unknown.ensures _
