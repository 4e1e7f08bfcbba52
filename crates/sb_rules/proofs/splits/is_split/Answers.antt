use Rattle.std.proofs.Common.{ℕ, List, map, length, Some, subst, sym, ap, ◌∙◌}
use Rattle.sb_regex.specs.Numbered.{regex_at}
use Rattle.sb_regex.proofs.CallerLemmas.{extends_same}
use Rattle.sb_rulebook.specs.Atoms.{in_atom}
use Rattle.sb_rulebook.specs.Splits.{is_split}
use Rattle.sb_proof.specs.declared.atom.Atom as code
use Rattle.sb_proof.specs.declared.atom.Piece.{Piece}
use Rattle.sb_proof.specs.Lines.{atom_in, piece_in}
use Rattle.sb_atoms.specs.Numbered.{over, HasRegexBelow}
use Rattle.sb_rules.proofs.Parting.{ok_for}
use Rattle.sb_rules.proofs.splits.is_split.Goals as goal

pub is_split_from-requires-clause-regex : goal.is_split_from-requires-clause-regex
is_split_from-requires-clause-regex c =
    subst (λ (d : code.Atom ℕ). HasRegexBelow (length c.args.arena.now) (atom_in d)) c.in-In.is c.requires.one

pub returns-in-In-clause-ok : goal.returns-in-In-clause-ok
returns-in-In-clause-ok c =
    let rs = c.args.arena.now in
    ok_for c.is_split_from.result _ _
    (ap (λ (ps : List Piece). is_split (Some (in_atom (map piece_in ps) (regex_at rs c.in-In.regex)))
    (Some (over rs (atom_in c.args.between.now))) (Some (over rs (atom_in c.args.other.now)))) c.as_slice.ensures
    ∙ ap (λ (d : code.Atom ℕ). is_split (Some (over rs (atom_in d))) (Some (over rs (atom_in c.args.between.now)))
    (Some (over rs (atom_in c.args.other.now)))) (sym c.in-In.is)) c.is_split_from.ensures.ok

pub returns-in-Bool-clause-extends : goal.returns-in-Bool-clause-extends
returns-in-Bool-clause-extends c = extends_same _
