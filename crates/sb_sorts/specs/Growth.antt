-- Private: what reading makes of the table, and the numbers of a list of terms.
use Rattle.std.specs.Prelude.{◌≡◌, ℕ, true, List, Result, Ok}
use Rattle.sb_meaning.specs.Terms.{Term}
use Rattle.sb_script.specs.Faults.{Fault}
use Rattle.sb_term.specs.Numbered.{terms_at, AllNumbers, Extends}
use Rattle.sb_term.specs.Serials.{all_below}

-- the terms stay, and those that are new speak of constants with serials below this, as the old ones do
pub record Grows (n : ℕ) (old new : List Term) : Type 0 where
  pub extends : Extends old new
  pub below : all_below n old ≡ true → all_below n new ≡ true

-- these are the numbers of the terms that reading gives
pub record AreRead (ts : List Term) (reading : Result (List Term) Fault) (ids : List ℕ) : Type 0 where
  pub terms : reading ≡ Ok (terms_at ts ids)
  pub numbers : AllNumbers ts ids
