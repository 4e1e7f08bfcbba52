-- What is known of live assertions stays so, as the state grows, and where levels are left.
use Rattle.std.specs.Prelude.{◌≡◌, ℕ, length}
use Rattle.sb_term.specs.Numbered.{Extends}
use Rattle.sb_stack.specs.Stacked.{Stacked, IsLonger}
use Rattle.sb_models.specs.declared.models.Models.{Models}
use Rattle.sb_models.specs.Knowing.{Knows}

-- terms keep their numbers, and assertions their places
abbrev pub ModelsStay : Type 0
ModelsStay = (m : Models) (old new : Stacked) → Extends old.table new.table → IsLonger old.assertions new.assertions
    → Knows m old → Knows m new

-- terms keep their numbers, and so many assertions, from the first on, their places
abbrev pub LeavesKnown : ℕ → Models → Models → Type 0
LeavesKnown count m m' = (old new : Stacked) → Extends old.table new.table → IsLonger new.assertions old.assertions
    → length new.assertions ≡ count → Knows m old → Knows m' new
