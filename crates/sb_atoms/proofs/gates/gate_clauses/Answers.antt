use Rattle.std.proofs.Common.{ap, ◌∙◌}
use Rattle.std.specs.List.{list_all, flat_map}
use Rattle.sb_lit.specs.Clauses.{are_ascending}
use Rattle.sb_rulebook.specs.Gates.{is_gate}
use Rattle.sb_sound.specs.GateLaws.{all_hold}
use Rattle.sb_atoms.specs.Numbered.{atoms_in}
use Rattle.sb_atoms.specs.GateClauses.{atom_at, clause_of}
use Rattle.sb_atoms.proofs.GateFacts.{all_ascend, all_gates, names_there}
use Rattle.sb_atoms.proofs.Saying.{all_say}
use Rattle.sb_atoms.proofs.gates.gate_clauses.Goals as goal

pub returns-clause-exact : goal.returns-clause-exact
returns-clause-exact c =
    c.in_ok-found.ensures ∙ ap (flat_map clause_of) (c.deref.ensures.value ∙ c.in_ok-said.ensures)

pub returns-clause-ascending : goal.returns-clause-ascending
returns-clause-ascending c =
    ap (list_all are_ascending) c.in_ok-found.ensures ∙ all_ascend c.deref.result.now

pub returns-clause-gates : goal.returns-clause-gates
returns-clause-gates c = λ rs.
    let a = atom_at c.args.atoms.now c.args.atom in
    ap (list_all (is_gate (atoms_in rs c.args.atoms.now)))
    (c.in_ok-found.ensures ∙ ap (flat_map clause_of) (c.deref.ensures.value ∙ c.in_ok-said.ensures))
    ∙ all_gates rs c.args.atoms.now c.args.atom a (names_there c.args.atoms.now c.args.atom c.requires)

pub returns-clause-says : goal.returns-clause-says
returns-clause-says c = λ truths.
    ap (all_hold truths)
    (c.in_ok-found.ensures ∙ ap (flat_map clause_of) (c.deref.ensures.value ∙ c.in_ok-said.ensures))
    ∙ all_say truths c.args.atom (atom_at c.args.atoms.now c.args.atom)
