-- What a world in memory tells of a port is what the port holds.
use Rattle.std.proofs.Common.{◌≡◌, ℕ, List, Option, refl}
use Rattle.sb_world.specs.declared.InPort.{InPort}
use Rattle.sb_world.specs.declared.InPort.TheVariants as in_port
use Rattle.sb_world.specs.declared.OutPort.{OutPort}
use Rattle.sb_world.specs.declared.OutPort.TheVariants as out_port
use Rattle.sb_world.specs.declared.ports.Ports.{Ports}
use Rattle.sb_world.specs.Outside.{input_at, output_at}
use Rattle.sb_world.specs.Ports.{reading_at, writing_at}
use Rattle.sb_world.specs.Worlds.{told, told_input, told_output}

pub input_at-told : (port : InPort) (file : List ℕ → Option (List ℕ)) (standard_input : List ℕ) (p : Ports)
    → input_at port (told file standard_input p) ≡ told_input (reading_at port p)
input_at-told in_port.Script file standard_input p = refl
input_at-told in_port.Proof file standard_input p = refl

pub output_at-told : (port : OutPort) (file : List ℕ → Option (List ℕ)) (standard_input : List ℕ) (p : Ports)
    → output_at port (told file standard_input p) ≡ told_output (writing_at port p)
output_at-told out_port.Answers file standard_input p = refl
output_at-told out_port.Proof file standard_input p = refl
output_at-told out_port.Faults file standard_input p = refl
