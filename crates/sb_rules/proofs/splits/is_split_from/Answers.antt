use Rattle.std.proofs.Common.{List, map, Some, sym, ap}
use Rattle.sb_regex.specs.Numbered.{regex_at}
use Rattle.sb_regex.proofs.CallerLemmas.{extends_same}
use Rattle.sb_rulebook.specs.Atoms.{in_atom}
use Rattle.sb_rulebook.specs.Splits.{is_split}
use Rattle.sb_proof.specs.declared.atom.Piece.{Piece}
use Rattle.sb_proof.specs.Lines.{atom_in, piece_in}
use Rattle.sb_atoms.specs.Numbered.{over}
use Rattle.sb_rules.proofs.Parting.{ok_for, parted, nothing_split}
use Rattle.sb_rules.proofs.splits.is_split_from.Goals as goal

pub returns-in_default-clause-ok : goal.returns-in_default-clause-ok
returns-in_default-clause-ok c =
    nothing_split c.args.pieces.now (regex_at c.args.arena.now c.args.regex)
    (Some (over c.args.arena.now (atom_in c.args.between.now)))
    (Some (over c.args.arena.now (atom_in c.args.other.now))) c.in_default.len_below

pub returns-clause-ok : goal.returns-clause-ok
returns-clause-ok c =
    let rs = c.args.arena.now in
    ok_for c.is_split_behind.result _ _
    (ap (λ (ps : List Piece). is_split (Some (in_atom (map piece_in ps) (regex_at rs c.args.regex)))
    (Some (over rs (atom_in c.args.between.now))) (Some (over rs (atom_in c.args.other.now))))
    (sym (parted c.args.pieces.now c.first-item.result c.in-len1-up.len_at_least c.first-item.is)))
    c.is_split_behind.ensures.ok

pub returns-in_default-clause-extends : goal.returns-in_default-clause-extends
returns-in_default-clause-extends c = extends_same _
