use Rattle.std.proofs.Common.{◌∷◌, map, Some, sym, ap}
use Rattle.sb_regex.specs.Numbered.{regex_at}
use Rattle.sb_regex.proofs.CallerLemmas.{extends_same}
use Rattle.sb_rulebook.specs.Atoms.{in_atom}
use Rattle.sb_rulebook.specs.Splits.{is_split}
use Rattle.sb_proof.specs.declared.atom.Piece.{Piece}
use Rattle.sb_proof.specs.Lines.{atom_in, piece_in}
use Rattle.sb_atoms.specs.Numbered.{over}
use Rattle.sb_rules.proofs.Parting.{ok_for}
use Rattle.sb_rules.proofs.splits.is_split_behind.Goals as goal

pub returns-in-Constant-clause-ok : goal.returns-in-Constant-clause-ok
returns-in-Constant-clause-ok c =
    let rs = c.args.arena.now in
    ok_for c.is_split_to.result _ _
    (ap (λ (p : Piece). is_split (Some (in_atom (piece_in p ∷ map piece_in c.args.behind.now)
    (regex_at rs c.args.regex))) (Some (over rs (atom_in c.args.between.now)))
    (Some (over rs (atom_in c.args.other.now)))) (sym c.in-Constant.is)) c.is_split_to.ensures.ok

pub returns-in-Word-clause-ok : goal.returns-in-Word-clause-ok
returns-in-Word-clause-ok c =
    let rs = c.args.arena.now in
    ap (λ (p : Piece). is_split (Some (in_atom (piece_in p ∷ map piece_in c.args.behind.now)
    (regex_at rs c.args.regex))) (Some (over rs (atom_in c.args.between.now)))
    (Some (over rs (atom_in c.args.other.now)))) (sym c.in-Word.is)

pub returns-in-Word-clause-extends : goal.returns-in-Word-clause-extends
returns-in-Word-clause-extends c = extends_same _
