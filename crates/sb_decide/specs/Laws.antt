-- What is known stays so, as the state grows, as assertions are taken back, and as what is kept grows.
use Rattle.std.specs.Prelude.{◌≡◌, ℕ, ◌≤◌, length}
use Rattle.sb_term.specs.Numbered as table
use Rattle.sb_store.specs.Stores.{Grows}
use Rattle.sb_store.specs.declared.store.Store.{Store}
use Rattle.sb_stack.specs.Stacked.{Stacked, IsLonger}
use Rattle.sb_decide.specs.declared.decide.Decider.{Decider}
use Rattle.sb_decide.specs.Knowing.{Knows}
use Rattle.sb_decide.specs.Ready.{IsReady}

-- terms keep their numbers and assertions their places, and the words stay
abbrev pub KnowsStays : Type 0
KnowsStays = (kept : Decider) (old new : Stacked) → table.Extends old.table new.table
    → IsLonger old.assertions new.assertions → new.words ≡ old.words → length old.scope.sorts ≤ length new.scope.sorts →
    Knows kept old → Knows kept new

-- as they do, but that assertions are taken back from the end, and so many stay
abbrev pub LeavesKnown : ℕ → Decider → Decider → Type 0
LeavesKnown count kept kept' = (old new : Stacked) → table.Extends old.table new.table
    → IsLonger new.assertions old.assertions → count ≤ length new.assertions → new.words ≡ old.words
    → length old.scope.sorts ≤ length new.scope.sorts → Knows kept old → Knows kept' new

-- more regexes, and more known of them and of terms
abbrev pub KnowsGrown : Type 0
KnowsGrown = (kept : Decider) (store : Store) (stack : Stacked) → Grows stack.table kept.store store
    → Knows kept stack → Knows (record kept { store = store }) stack

-- and a check that is ready stays ready
abbrev pub ReadyGrown : Type 0
ReadyGrown = (kept : Decider) (store : Store) (stack : Stacked) → Grows stack.table kept.store store
    → IsReady kept stack → IsReady (record kept { store = store }) stack
