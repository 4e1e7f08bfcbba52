-- What is put on a tape of lines.
use Rattle.std.specs.Prelude.{◌≡◌, ℕ, ◌-◌, ◌^◌, ◌≤◌, ◌<◌, ◌⊎◌, List, ◌++◌, take, length, Option, option_map, Result, Ok, Err}
use Rattle.sb_proof.specs.declared.tape.TapeFault.{TapeFault}
use Rattle.sb_proof.specs.declared.tape.TapeFault.TheVariants as fault

-- these bytes behind those that a tape told; None stands for what isn't told
abbrev pub with_bytes : List ℕ → Option (List ℕ) → Option (List ℕ)
with_bytes bytes = option_map (λ there. there ++ bytes)

-- some of the bytes, from their front, behind those that a tape told
abbrev pub PutsFront : List ℕ → Option (List ℕ) → Option (List ℕ) → Type 0
PutsFront bytes old new = (out : ℕ) × (out ≤ length bytes) × (new ≡ with_bytes (take out bytes) old)

-- The count of faults rose: it is greater than before, or stands at its end. It never falls.
pub record Rose (old new : ℕ) : Type 0 where
  pub never_falls : old ≤ new
  pub greater : (old < new) ⊎ (new ≡ 2 ^ 64 - 1)

-- only a fault raises the count of faults, and a fault does
abbrev pub CountsFault : Result (Unit {0}) TapeFault → ℕ → ℕ → Type 0
CountsFault (Ok x) old new = new ≡ old
CountsFault (Err fault.Fault) old new = Rose old new
CountsFault (Err fault.NoMemory) old new = new ≡ old
