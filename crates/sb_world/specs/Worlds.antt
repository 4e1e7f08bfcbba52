-- What the worlds in memory tell.
use Rattle.std.specs.Prelude.{◌≡◌, ◌≢◌, ℕ, List, [], Option, Some, unwrap_or}
use Rattle.sb_world.specs.Outside.{Outside, Input, Output, NotOpened}
use Rattle.sb_world.specs.Memory.{Reading, Writing, Schedule, held_by}
use Rattle.sb_world.specs.declared.ports.Ports.{Ports}
use Rattle.sb_world.specs.declared.memory.MemWorld.{MemWorld}
use Rattle.sb_world.specs.declared.calm.CalmWorld.{CalmWorld}

abbrev pub told_input : Reading → Input
told_input r = record { opening = Some r.opening; left = Some r.left }

abbrev pub told_output : Writing → Output
told_output w = record { opening = Some w.opening; written = Some w.written }

-- what is told of these files, this standard input and these ports
abbrev pub told : (List ℕ → Option (List ℕ)) → List ℕ → Ports → Outside
told file standard_input p = record {
  file = file;
  standard_input = Some standard_input;
  script_in = told_input p.script_in;
  proof_in = told_input p.proof_in;
  answers = told_output p.answers;
  proof_out = told_output p.proof_out;
  faults = told_output p.faults;
}

-- A MemWorld tells everything.
abbrev pub outside_of : MemWorld → Outside
outside_of w = told (held_by w.store.files) w.store.standard_input.items w.ports

abbrev pub faults_of : MemWorld → ℕ
faults_of w = w.faults

abbrev pub schedule_of : MemWorld → Schedule
schedule_of w = w.plan

-- what a file holds where an unknown name is an empty one
abbrev pub held_or_empty : (List ℕ → Option (List ℕ)) → List ℕ → Option (List ℕ)
held_or_empty file name = Some (unwrap_or (file name) [])

-- A CalmWorld tells everything. A name that it lacks is an empty file.
abbrev pub calm_outside : CalmWorld → Outside
calm_outside w = told (held_or_empty (held_by w.store.files)) w.store.standard_input.items w.ports

-- what is told of an input that was never opened, and of an output that was never created
abbrev pub never_opened : Input
never_opened = record { opening = Some NotOpened; left = Some [] }

abbrev pub never_created : Output
never_created = record { opening = Some NotOpened; written = Some [] }

-- the file of this name holds these bytes, and nothing else changed
pub record AddsFile (old new : Outside) (name bytes : List ℕ) : Type 0 where
  pub added : new.file name ≡ Some bytes
  pub others : (other : List ℕ) → other ≢ name → new.file other ≡ old.file other
  pub rest : new ≡ record old { file = new.file }
