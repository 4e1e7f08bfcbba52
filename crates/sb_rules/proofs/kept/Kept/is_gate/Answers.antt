use Rattle.std.proofs.Common.{nat_lt, length, sym, ◌∙◌}
use Rattle.sb_atoms.specs.Numbered.{atoms_in}
use Rattle.sb_rulebook.specs.Gates.{atom_of, is_gate_of}
use Rattle.sb_rules.proofs.Gated.{among_itself, any_there, any_more, any_none}
use Rattle.sb_rules.proofs.Emptied.{at-literal}
use Rattle.sb_rules.proofs.kept.Kept.is_gate.Goals as goal

pub is_gate_of-requires-clause-signs : goal.is_gate_of-requires-clause-signs
is_gate_of-requires-clause-signs c = sym c.has_both_signs.ensures ∙ c.if-has_both_signs.false

pub is_gate_of-requires-clause-among : goal.is_gate_of-requires-clause-among
is_gate_of-requires-clause-among c =
    among_itself c.args.literals.now c.loop-literal.literal-index _ c.loop-literal-test.true

pub is_gate_of-requires-clause-brought : goal.is_gate_of-requires-clause-brought
is_gate_of-requires-clause-brought c = c.requires.brought

pub is_gate_of-requires-clause-known : goal.is_gate_of-requires-clause-known
is_gate_of-requires-clause-known c =
    at-literal (λ l. nat_lt l.atom (length c.args.self.now.atoms)) c.args.literals.now c.loop-literal.literal-index _
    c.requires.known c.loop-literal-test.true

pub returns-then-branch : goal.returns-then-branch
returns-then-branch c =
    any_there (λ m. is_gate_of (atoms_in c.args.self.now.arena c.args.self.now.atoms) c.args.literals.now m
    (atom_of (atoms_in c.args.self.now.arena c.args.self.now.atoms) m))
    c.args.literals.now c.loop-literal.literal-index _ _ c.in_ok-is_gate_of.field-0 c.loop-literal-test.true
    c.loop-literal.invariant c.in_ok-is_gate_of.ensures c.if-branch.true

pub loop-literal-preserved : goal.loop-literal-preserved
loop-literal-preserved c =
    any_more (λ m. is_gate_of (atoms_in c.args.self.now.arena c.args.self.now.atoms) c.args.literals.now m
    (atom_of (atoms_in c.args.self.now.arena c.args.self.now.atoms) m))
    c.args.literals.now c.loop-literal.literal-index _ c.in_ok-is_gate_of.field-0 c.loop-literal-test.true
    c.loop-literal.invariant c.in_ok-is_gate_of.ensures c.if-branch.false

pub returns : goal.returns
returns c =
    any_none (λ m. is_gate_of (atoms_in c.args.self.now.arena c.args.self.now.atoms) c.args.literals.now m
    (atom_of (atoms_in c.args.self.now.arena c.args.self.now.atoms) m))
    c.args.literals.now c.loop-literal.literal-index _ c.loop-literal-test.false c.loop-literal.invariant
    (sym c.has_both_signs.ensures ∙ c.if-has_both_signs.false)
