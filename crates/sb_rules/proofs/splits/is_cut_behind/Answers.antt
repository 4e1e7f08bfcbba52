use Rattle.std.proofs.Common.{◌∷◌, ℕ, List, map, Some, sym, ap, ◌∙◌}
use Rattle.sb_word.specs.Words.{are_characters}
use Rattle.sb_regex.specs.Numbered.{regex_at}
use Rattle.sb_regex.proofs.CallerLemmas.{extends_same}
use Rattle.sb_script.specs.Pieces.{word_piece}
use Rattle.sb_rulebook.specs.Atoms.{are_pieces, in_atom}
use Rattle.sb_rulebook.specs.Splits.{is_cut}
use Rattle.sb_proof.specs.declared.atom.Piece.{Piece}
use Rattle.sb_proof.specs.Lines.{atom_in, piece_in}
use Rattle.sb_atoms.specs.Numbered.{over}
use Rattle.sb_rules.proofs.Parting.{ok_for}
use Rattle.sb_rules.proofs.Standing.{front_characters}
use Rattle.sb_rules.proofs.splits.is_cut_behind.Goals as goal

pub is_cut_to-requires-clause-word : goal.is_cut_to-requires-clause-word
is_cut_to-requires-clause-word c =
    ap are_characters c.as_slice.ensures.value
    ∙ front_characters c.in-Word.word.items (map piece_in c.args.behind.now)
    (ap (λ (p : Piece). are_pieces (piece_in p ∷ map piece_in c.args.behind.now)) (sym c.in-Word.is)
    ∙ c.requires.formed)

pub returns-in-Word-clause-ok : goal.returns-in-Word-clause-ok
returns-in-Word-clause-ok c =
    let rs = c.args.arena.now in
    ok_for c.is_cut_to.result _ _
    (ap (λ (w : List ℕ). is_cut (Some (in_atom (word_piece w ∷ map piece_in c.args.behind.now)
    (regex_at rs c.args.regex))) (Some (over rs (atom_in c.args.other.now)))) c.as_slice.ensures.value
    ∙ ap (λ (p : Piece). is_cut (Some (in_atom (piece_in p ∷ map piece_in c.args.behind.now)
    (regex_at rs c.args.regex))) (Some (over rs (atom_in c.args.other.now)))) (sym c.in-Word.is))
    c.is_cut_to.ensures.ok

pub returns-in-Constant-clause-ok : goal.returns-in-Constant-clause-ok
returns-in-Constant-clause-ok c =
    let rs = c.args.arena.now in
    ap (λ (p : Piece). is_cut (Some (in_atom (piece_in p ∷ map piece_in c.args.behind.now)
    (regex_at rs c.args.regex))) (Some (over rs (atom_in c.args.other.now)))) (sym c.in-Constant.is)

pub returns-in-Constant-clause-extends : goal.returns-in-Constant-clause-extends
returns-in-Constant-clause-extends c = extends_same _
