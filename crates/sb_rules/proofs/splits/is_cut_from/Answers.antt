use Rattle.std.proofs.Common.{◌≡◌, List, map, true, Some, subst, sym, ap}
use Rattle.sb_regex.specs.Numbered.{regex_at}
use Rattle.sb_regex.proofs.CallerLemmas.{extends_same}
use Rattle.sb_rulebook.specs.Atoms.{are_pieces, in_atom}
use Rattle.sb_rulebook.specs.Splits.{is_cut}
use Rattle.sb_proof.specs.declared.atom.Piece.{Piece}
use Rattle.sb_proof.specs.Lines.{atom_in, piece_in}
use Rattle.sb_atoms.specs.Numbered.{over}
use Rattle.sb_rules.proofs.Parting.{ok_for, parted, nothing_cut}
use Rattle.sb_rules.proofs.splits.is_cut_from.Goals as goal

pub returns-in_default-clause-ok : goal.returns-in_default-clause-ok
returns-in_default-clause-ok c =
    nothing_cut c.args.pieces.now (regex_at c.args.arena.now c.args.regex)
    (Some (over c.args.arena.now (atom_in c.args.other.now))) c.in_default.len_below

pub is_cut_behind-requires-clause-formed : goal.is_cut_behind-requires-clause-formed
is_cut_behind-requires-clause-formed c =
    subst (λ (ps : List Piece). are_pieces (map piece_in ps) ≡ true)
    (parted c.args.pieces.now c.first-item.result c.in-len1-up.len_at_least c.first-item.is) c.requires.formed

pub returns-clause-ok : goal.returns-clause-ok
returns-clause-ok c =
    let rs = c.args.arena.now in
    ok_for c.is_cut_behind.result _ _
    (ap (λ (ps : List Piece). is_cut (Some (in_atom (map piece_in ps) (regex_at rs c.args.regex)))
    (Some (over rs (atom_in c.args.other.now))))
    (sym (parted c.args.pieces.now c.first-item.result c.in-len1-up.len_at_least c.first-item.is)))
    c.is_cut_behind.ensures.ok

pub returns-in_default-clause-extends : goal.returns-in_default-clause-extends
returns-in_default-clause-extends c = extends_same _
