-- What is known of live assertions from one check to the next.
use Rattle.std.specs.Prelude.{◌≡◌, ℕ, ◌≤◌, true, List, length, map, take}
use Rattle.std.specs.List.{All, list_all}
use Rattle.sb_meaning.specs.Terms.{Term}
use Rattle.sb_term.specs.declared.assertion.Assertion as code
use Rattle.sb_script.specs.Fragment.{is_decided}
use Rattle.sb_fragment.specs.Rules.{assertion_in, HasNumberBelow}

-- so many assertions, from the first on, are decided ones
pub record AreInside (count : ℕ) (ts : List Term) (live : List code.Assertion) : Type 0 where
  pub front : count ≤ length live
  pub numbers : All (HasNumberBelow (length ts)) (take count live)
  pub decided : list_all is_decided (map (assertion_in ts) (take count live)) ≡ true
