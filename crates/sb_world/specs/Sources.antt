-- Private: what a store has for an input, for the clause of Store that no caller sees.
use Rattle.std.specs.Prelude.{ℕ, List, Option, Some, None}
use Rattle.sb_world.specs.Memory.{held_by}
use Rattle.sb_world.specs.declared.store.Store.{Store}

-- what an input that is opened by this name, or without one, is to hold
abbrev pub source_in : Store → Option (List ℕ) → Option (List ℕ)
source_in s None = Some s.standard_input.items
source_in s (Some name) = held_by s.files name
