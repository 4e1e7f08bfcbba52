use Rattle.std.proofs.Common.{◌∷◌, ◌&&◌, ℕ, List, map, length, Some, subst, sym, ap, ◌∙◌}
use Rattle.std.specs.Cmp.Lexicographic.{pointwise}
use Rattle.sb_lang.specs.Derivative.{nd_along}
use Rattle.sb_lang.specs.Order.{regex_eq}
use Rattle.sb_regex.specs.Numbered.{regex_at}
use Rattle.sb_regex.proofs.CallerLemmas.{extends_same}
use Rattle.sb_script.specs.Pieces.{word_piece}
use Rattle.sb_rulebook.specs.Atoms.{in_atom, is_same_piece}
use Rattle.sb_rulebook.specs.Splits.{is_cut}
use Rattle.sb_proof.specs.declared.atom.Atom as code
use Rattle.sb_proof.specs.declared.atom.Piece.{Piece}
use Rattle.sb_proof.specs.Lines.{atom_in, piece_in}
use Rattle.sb_atoms.specs.Numbered.{over, HasRegexBelow}
use Rattle.sb_rules.proofs.Parting.{ok_for}
use Rattle.sb_rules.proofs.splits.is_cut_to.Goals as goal

pub is_cut_at-requires-clause-target : goal.is_cut_at-requires-clause-target
is_cut_at-requires-clause-target c =
    subst (λ (d : code.Atom ℕ). HasRegexBelow (length c.args.arena.now) (atom_in d)) c.in-In.is c.requires.other

pub returns-in-In-clause-ok : goal.returns-in-In-clause-ok
returns-in-In-clause-ok c =
    let rs = c.args.arena.now in
    ok_for c.is_cut_at.result _ _
    (ap (λ (ps : List Piece). pointwise is_same_piece (map piece_in c.args.behind.now) (map piece_in ps)
    && regex_eq (nd_along (regex_at rs c.args.regex) c.args.word.now) (regex_at rs c.in-In.target)) c.as_slice.ensures
    ∙ ap (λ (d : code.Atom ℕ). is_cut (Some (in_atom (word_piece c.args.word.now ∷ map piece_in c.args.behind.now)
    (regex_at rs c.args.regex))) (Some (over rs (atom_in d)))) (sym c.in-In.is)) c.is_cut_at.ensures.ok

pub returns-in-Bool-clause-extends : goal.returns-in-Bool-clause-extends
returns-in-Bool-clause-extends c = extends_same _
