-- Private: the ports of a world in memory, changed one at a time, for the clauses of Ports that no caller sees.
use Rattle.std.specs.Prelude.{ℕ, List, [], ◌++◌, drop, Option}
use Rattle.sb_world.specs.Outside.{opening_by}
use Rattle.sb_world.specs.Memory.{Reading, Writing}
use Rattle.sb_world.specs.declared.InPort.{InPort}
use Rattle.sb_world.specs.declared.InPort.TheVariants as in_port
use Rattle.sb_world.specs.declared.OutPort.{OutPort}
use Rattle.sb_world.specs.declared.OutPort.TheVariants as out_port
use Rattle.sb_world.specs.declared.ports.Ports.{Ports}

abbrev pub reading_at : InPort → Ports → Reading
reading_at in_port.Script p = p.script_in
reading_at in_port.Proof p = p.proof_in

abbrev pub writing_at : OutPort → Ports → Writing
writing_at out_port.Answers p = p.answers
writing_at out_port.Proof p = p.proof_out
writing_at out_port.Faults p = p.faults

abbrev pub with_reading : InPort → Reading → Ports → Ports
with_reading in_port.Script r p = record p { script_in = r }
with_reading in_port.Proof r p = record p { proof_in = r }

abbrev pub with_writing : OutPort → Writing → Ports → Ports
with_writing out_port.Answers w p = record p { answers = w }
with_writing out_port.Proof w p = record p { proof_out = w }
with_writing out_port.Faults w p = record p { faults = w }

-- an input just opened by this name, or without one, which holds these bytes
abbrev pub opened_by : Option (List ℕ) → List ℕ → Reading
opened_by name bytes = record { opening = opening_by name; left = bytes }

-- an output just created
abbrev pub created_by : Option (List ℕ) → Writing
created_by name = record { opening = opening_by name; written = [] }

-- after the next bytes were read, so many of them
abbrev pub after_read : ℕ → Reading → Reading
after_read count r = record r { left = drop count r.left }

-- after these bytes were written
abbrev pub after_write : List ℕ → Writing → Writing
after_write bytes w = record w { written = w.written ++ bytes }
