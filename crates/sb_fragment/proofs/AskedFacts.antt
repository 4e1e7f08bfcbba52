-- A term that asks something of one constant's word: by what it asks for.
use Rattle.std.proofs.Common.{◌≡◌, ℕ, Bool, false, Option, Some, None, ap}
use Rattle.sb_meaning.specs.Terms.{Term}
use Rattle.sb_script.specs.Brought.{asked, is_regex, is_membership}

pub asked_membership : (t : Term) (serial : ℕ) (R : Term) → asked t ≡ Some (serial, R)
    → is_membership t ≡ is_regex R
asked_membership t serial R h =
    ap (λ (o : Option (ℕ × Term)). elim o as (λ _. Bool) [ Some p ↦ is_regex p.1 | None ↦ false ]) h
