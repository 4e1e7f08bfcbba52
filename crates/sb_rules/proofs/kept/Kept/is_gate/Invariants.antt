use Rattle.std.proofs.Common.{◌≡◌, drop}
use Rattle.std.specs.List.{list_any}
use Rattle.sb_atoms.specs.Numbered.{atoms_in}
use Rattle.sb_rulebook.specs.Gates.{atom_of, is_gate_of}
use Rattle.sb_rules.proofs.kept.Kept.is_gate.Given as goal

abbrev pub invariant-loop-literal : goal.invariant-loop-literal
invariant-loop-literal l =
    list_any (λ m. is_gate_of (atoms_in l.self.arena l.self.atoms) l.literals m
    (atom_of (atoms_in l.self.arena l.self.atoms) m)) (drop l.literal-index l.literals)
    ≡ list_any (λ m. is_gate_of (atoms_in l.self.arena l.self.atoms) l.literals m
    (atom_of (atoms_in l.self.arena l.self.atoms) m)) l.literals
