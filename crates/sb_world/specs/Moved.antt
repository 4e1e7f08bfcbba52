-- What moves between a program and its outside: bytes that are read, and pieces that are written.
use Rattle.std.specs.Prelude.{◌≡◌, ℕ, ◌+◌, ◌<◌, ◌⊎◌, List, [], ◌∷◌, ◌++◌, length, take, drop, option_map}
use Rattle.sb_world.specs.Outside.{Outside}
use Rattle.sb_world.specs.declared.InPort.{InPort}
use Rattle.sb_world.specs.declared.InPort.TheVariants as in_port
use Rattle.sb_world.specs.declared.OutPort.{OutPort}
use Rattle.sb_world.specs.declared.OutPort.TheVariants as out_port

-- how many bytes were read of each input, and which were written to each output
pub record Moved : Type 0 where
  pub script : ℕ
  pub proof : ℕ
  pub answers : List ℕ
  pub proof_out : List ℕ
  pub faults : List ℕ

abbrev pub nothing : Moved
nothing = record { script = 0; proof = 0; answers = []; proof_out = []; faults = [] }

-- the outside after that
abbrev pub moved_by : Moved → Outside → Outside
moved_by m o = record o {
  script_in = record o.script_in { left = option_map (drop m.script) o.script_in.left };
  proof_in = record o.proof_in { left = option_map (drop m.proof) o.proof_in.left };
  answers = record o.answers { written = option_map (λ w. w ++ m.answers) o.answers.written };
  proof_out = record o.proof_out { written = option_map (λ w. w ++ m.proof_out) o.proof_out.written };
  faults = record o.faults { written = option_map (λ w. w ++ m.faults) o.faults.written };
}

-- the one, and then the other
abbrev pub both : Moved → Moved → Moved
both m n = record {
  script = m.script + n.script;
  proof = m.proof + n.proof;
  answers = m.answers ++ n.answers;
  proof_out = m.proof_out ++ n.proof_out;
  faults = m.faults ++ n.faults;
}

-- so many bytes are read of an input
abbrev pub reading : InPort → ℕ → Moved
reading in_port.Script count = record nothing { script = count }
reading in_port.Proof count = record nothing { proof = count }

-- a piece that is written to an output
abbrev pub Write : Type 0
Write = OutPort × List ℕ

abbrev pub writing : Write → Moved
writing (out_port.Answers, bytes) = record nothing { answers = bytes }
writing (out_port.Proof, bytes) = record nothing { proof_out = bytes }
writing (out_port.Faults, bytes) = record nothing { faults = bytes }

-- pieces that are written one after another
abbrev pub writing_all : List Write → Moved
writing_all [] = nothing
writing_all (w ∷ ws) = both (writing w) (writing_all ws)

-- The first pieces are a front of the others that is not all of them: the last of them may be cut within.
abbrev pub IsProperFront : List Write → List Write → Type 0
IsProperFront front [] = ⊥
IsProperFront front (w ∷ ws) = ((out : ℕ) × (out < length w.1) × (front ≡ (w.0, take out w.1) ∷ []))
    ⊎ ((rest : List Write) × (front ≡ w ∷ rest) × IsProperFront rest ws)
