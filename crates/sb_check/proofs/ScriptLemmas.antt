-- A whole run: what stands behind its last turn holds of all of it.
use Rattle.std.proofs.Common.{◌≡◌, ℕ, Bool, false, List, Result, Ok, Err, IfErr, OnOk}
use Rattle.sb_world.specs.Outside.{Outside}
use Rattle.sb_check.specs.declared.checker.CheckerFault.{CheckerFault}
use Rattle.sb_check.specs.declared.check.Run.{Run}
use Rattle.sb_check.specs.Sofar.{GoesOn, HasEnded, Turns, HasAccepted, Stops}

-- the last turn has met the script's end
last_turn : (more : Bool) (first run after : Run) (start now then : Outside) → more ≡ false
    → ((limit : ℕ) (script proof : List ℕ) (old : Outside) → GoesOn limit script proof first old start
    → GoesOn limit script proof run old now)
    → ((limit : ℕ) (script proof : List ℕ) (old : Outside) → GoesOn limit script proof run old now
    → Turns more limit script proof after old then)
    → (limit : ℕ) (script proof : List ℕ) (old : Outside) → GoesOn limit script proof first old start
    → HasEnded limit script proof after old then
last_turn more first run after start now then is goes turns limit script proof old sofar =
    let turns' = rw is at turns in turns' limit script proof old (goes limit script proof old sofar)

pub script_goes : {T : Type 0} (r : Result T CheckerFault) (more : Bool) (first run after : Run)
    (start now then end : Outside) → more ≡ false
    → ((limit : ℕ) (script proof : List ℕ) (old : Outside) → GoesOn limit script proof first old start
    → GoesOn limit script proof run old now)
    → ((limit : ℕ) (script proof : List ℕ) (old : Outside) → GoesOn limit script proof run old now
    → Turns more limit script proof after old then)
    → OnOk r ((limit : ℕ) (script proof : List ℕ) (old : Outside) → HasEnded limit script proof after old then
    → HasAccepted limit script proof old end)
    → OnOk r ((limit : ℕ) (script proof : List ℕ) (old : Outside) → GoesOn limit script proof first old start
    → HasAccepted limit script proof old end)
script_goes (Ok done) more first run after start now then end is goes turns accepts = λ limit script proof old sofar.
    accepts limit script proof old
    (last_turn more first run after start now then is goes turns limit script proof old sofar)
script_goes (Err f) more first run after start now then end is goes turns accepts = tt

pub script_stops : {T : Type 0} (r : Result T CheckerFault) (more : Bool) (first run after : Run)
    (start now then end : Outside) → more ≡ false
    → ((limit : ℕ) (script proof : List ℕ) (old : Outside) → GoesOn limit script proof first old start
    → GoesOn limit script proof run old now)
    → ((limit : ℕ) (script proof : List ℕ) (old : Outside) → GoesOn limit script proof run old now
    → Turns more limit script proof after old then)
    → IfErr r (λ fault. (limit : ℕ) (script proof : List ℕ) (old : Outside)
    → HasEnded limit script proof after old then → Stops fault limit script proof old end)
    → IfErr r (λ fault. (limit : ℕ) (script proof : List ℕ) (old : Outside) → GoesOn limit script proof first old start
    → Stops fault limit script proof old end)
script_stops (Ok done) more first run after start now then end is goes turns stops = tt
script_stops (Err f) more first run after start now then end is goes turns stops = λ limit script proof old sofar.
    stops limit script proof old
    (last_turn more first run after start now then is goes turns limit script proof old sofar)
