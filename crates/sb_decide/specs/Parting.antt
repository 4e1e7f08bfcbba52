-- Private: which of the constants that changed are left to a search.
use Rattle.std.specs.Prelude.{◌≡◌, ℕ, true, ◌||◌, List}
use Rattle.std.specs.List.{All}
use Rattle.sb_term.specs.declared.term.Serial.{Serial}
use Rattle.sb_store.specs.Stores.{Grows}
use Rattle.sb_stack.specs.Stacked.{Stacked}
use Rattle.sb_decide.specs.declared.decide.Decider.{Decider}
use Rattle.sb_decide.specs.Conjoined.{is_listed}
use Rattle.sb_decide.specs.Knowing.{Knows}
use Rattle.sb_decide.specs.Ready.{AreSpoken, IsSpoken}
use Rattle.sb_decide.specs.Taking.{HasAll}

-- Constants were parted: each is in one of the lists, and those that are left are spoken of.
pub record IsParted (all spoken changed left : List Serial) : Type 0 where
  pub each : (n : ℕ) → is_listed all n ≡ (is_listed changed n || is_listed left n)
  pub are_spoken : All (λ serial. is_listed spoken serial.0 ≡ true) left

-- The constants that occur in assertions of other structure are known, and those of them that changed are left.
pub record SetsAside (old new : Decider) (stack : Stacked) : Type 0 where
  pub knows : Knows new stack
  pub all : HasAll new stack
  pub spoken : AreSpoken new.others.items stack new.spoken.keys
  pub left : All (λ serial. IsSpoken new.others.items stack serial.0) new.left.items
  pub store : Grows stack.table old.store new.store
