-- What is outside a program: its files, standard input and ports, as far as a world tells of them.
use Rattle.std.specs.Prelude.{◌≡◌, ℕ, ◌-◌, ◌^◌, ◌<◌, ◌≤◌, ◌⊎◌, List, [], ◌++◌, length, take, drop, Option, Some, None, option_map, Result, Ok, Err}
use Rattle.sb_world.specs.declared.InPort.{InPort}
use Rattle.sb_world.specs.declared.InPort.TheVariants as in_port
use Rattle.sb_world.specs.declared.OutPort.{OutPort}
use Rattle.sb_world.specs.declared.OutPort.TheVariants as out_port
use Rattle.sb_world.specs.declared.WorldError.{WorldError}
use Rattle.sb_world.specs.declared.WorldError.TheVariants as world_error

-- how a port was opened or created: not yet, without a name, or with this name
pub data Opening : Type 0 where
  NotOpened : Opening
  Nameless : Opening
  Named : List ℕ → Opening

-- the opening by a call that was given this name, or none
abbrev pub opening_by : Option (List ℕ) → Opening
opening_by None = Nameless
opening_by (Some name) = Named name

-- An input port. None stands for what isn't told, here and below.
pub record Input : Type 0 where
  pub opening : Option Opening
  -- the bytes that are left to be read
  pub left : Option (List ℕ)

-- an output port
pub record Output : Type 0 where
  pub opening : Option Opening
  -- the bytes written since it was created
  pub written : Option (List ℕ)

pub record Outside : Type 0 where
  -- what the file of a name holds
  pub file : List ℕ → Option (List ℕ)
  -- what standard input holds
  pub standard_input : Option (List ℕ)
  pub script_in : Input
  pub proof_in : Input
  pub answers : Output
  pub proof_out : Output
  pub faults : Output

-- what a world tells that tells nothing
abbrev pub untold : Outside
untold = record {
  file = λ _. None;
  standard_input = None;
  script_in = record { opening = None; left = None };
  proof_in = record { opening = None; left = None };
  answers = record { opening = None; written = None };
  proof_out = record { opening = None; written = None };
  faults = record { opening = None; written = None };
}

abbrev pub input_at : InPort → Outside → Input
input_at in_port.Script o = o.script_in
input_at in_port.Proof o = o.proof_in

abbrev pub output_at : OutPort → Outside → Output
output_at out_port.Answers o = o.answers
output_at out_port.Proof o = o.proof_out
output_at out_port.Faults o = o.faults

-- the outside with one port changed, and nothing else
abbrev pub with_input : InPort → (Input → Input) → Outside → Outside
with_input in_port.Script change o = record o { script_in = change o.script_in }
with_input in_port.Proof change o = record o { proof_in = change o.proof_in }

abbrev pub with_output : OutPort → (Output → Output) → Outside → Outside
with_output out_port.Answers change o = record o { answers = change o.answers }
with_output out_port.Proof change o = record o { proof_out = change o.proof_out }
with_output out_port.Faults change o = record o { faults = change o.faults }

-- what an input that is opened by this name, or without one, holds
abbrev pub source_of : Option (List ℕ) → Outside → Option (List ℕ)
source_of None o = o.standard_input
source_of (Some name) o = o.file name

-- after an opening what is left is all that the file, or standard input, holds
abbrev pub open_at : InPort → Option (List ℕ) → Outside → Outside
open_at port name o =
    with_input port (λ i. record { opening = option_map (λ _. opening_by name) i.opening; left = source_of name o }) o

-- a created output has no bytes yet
abbrev pub create_at : OutPort → Option (List ℕ) → Outside → Outside
create_at port name =
    with_output port (λ i. record {
      opening = option_map (λ _. opening_by name) i.opening;
      written =
          option_map (λ _. []) i.written;
    })

-- after the next bytes of an input were read, so many of them
abbrev pub read_at : InPort → ℕ → Outside → Outside
read_at port count = with_input port (λ i. record i { left = option_map (drop count) i.left })

-- after these bytes were written
abbrev pub write_at : OutPort → List ℕ → Outside → Outside
write_at port bytes = with_output port (λ i. record i { written = option_map (λ w. w ++ bytes) i.written })

-- The count of faults rose: it is greater than before, or stands at its end. It never falls.
pub record Rose (old new : ℕ) : Type 0 where
  pub never_falls : old ≤ new
  pub greater : (old < new) ⊎ (new ≡ 2 ^ 64 - 1)

-- only a failure raises the count of faults, and a failure does
abbrev pub CountsFault : {T : Type 0} → Result T WorldError → ℕ → ℕ → Type 0
CountsFault (Ok x) old new = new ≡ old
CountsFault (Err world_error.Failed) old new = Rose old new
CountsFault (Err world_error.NoMemory) old new = new ≡ old

-- A read of so many bytes into a buffer gave what was left, from its front: nothing exactly where nothing
-- was left.
pub record ReadsFront (left buffer : List ℕ) (count : ℕ) : Type 0 where
  pub within : count ≤ length left
  pub bytes : take count buffer ≡ take count left
  pub progress : count ≡ 0 → left ≡ []
