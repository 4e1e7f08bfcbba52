use Rattle.std.proofs.Common.{ℕ, List, map, length, Some, subst, sym, ap, ◌∙◌}
use Rattle.sb_regex.specs.Numbered.{regex_at}
use Rattle.sb_rulebook.specs.Atoms.{in_atom}
use Rattle.sb_rulebook.specs.Splits.{is_end}
use Rattle.sb_proof.specs.declared.atom.Atom as code
use Rattle.sb_proof.specs.declared.atom.Piece.{Piece}
use Rattle.sb_proof.specs.Lines.{atom_in, piece_in}
use Rattle.sb_atoms.specs.Numbered.{over, HasRegexBelow}
use Rattle.sb_rules.proofs.splits.is_end.Goals as goal

pub is_end_of-requires : goal.is_end_of-requires
is_end_of-requires c =
    subst (λ (d : code.Atom ℕ). HasRegexBelow (length c.args.arena.now) (atom_in d)) c.in-In.is c.requires

pub returns-in-In : goal.returns-in-In
returns-in-In c =
    let rs = c.args.arena.now in
    c.is_end_of.ensures
    ∙ ap (λ (ps : List Piece). is_end c.args.positive (Some (in_atom (map piece_in ps) (regex_at rs c.in-In.regex))))
    c.as_slice.ensures
    ∙ ap (λ (d : code.Atom ℕ). is_end c.args.positive (Some (over rs (atom_in d)))) (sym c.in-In.is)
