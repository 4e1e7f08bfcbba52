use Rattle.std.proofs.Common.{[], ◌∷◌, ◌&&◌, ℕ, List, map, length, Some, subst, sym, ap, ◌∙◌}
use Rattle.std.specs.Cmp.Lexicographic.{pointwise}
use Rattle.sb_lang.specs.Constructors.{mkpath}
use Rattle.sb_regex.specs.Numbered.{regex_at}
use Rattle.sb_regex.proofs.CallerLemmas.{extends_same}
use Rattle.sb_script.specs.Pieces.{constant_piece}
use Rattle.sb_rulebook.specs.Atoms.{in_atom, is_same_atom, is_same_piece}
use Rattle.sb_rulebook.specs.Splits.{is_split}
use Rattle.sb_proof.specs.declared.atom.Atom as code
use Rattle.sb_proof.specs.declared.atom.Piece.{Piece}
use Rattle.sb_proof.specs.Lines.{atom_in, piece_in}
use Rattle.sb_atoms.specs.Numbered.{over, HasRegexBelow}
use Rattle.sb_rules.proofs.Parting.{ok_for}
use Rattle.sb_rules.proofs.splits.is_split_to.Goals as goal

pub is_split_at-requires-clause-target : goal.is_split_at-requires-clause-target
is_split_at-requires-clause-target c =
    subst (λ (d : code.Atom ℕ). HasRegexBelow (length c.args.arena.now) (atom_in d)) c.in-In.is c.requires.other

pub returns-in-In-clause-ok : goal.returns-in-In-clause-ok
returns-in-In-clause-ok c =
    let rs = c.args.arena.now in
    ok_for c.is_split_at.result _ _
    (ap (λ (ps : List Piece). pointwise is_same_piece (map piece_in c.args.behind.now) (map piece_in ps)
    && is_same_atom (in_atom (constant_piece c.args.serial ∷ [])
    (mkpath (regex_at rs c.args.regex) (regex_at rs c.in-In.target))) (over rs (atom_in c.args.between.now)))
    c.as_slice.ensures
    ∙ ap (λ (d : code.Atom ℕ). is_split (Some (in_atom (constant_piece c.args.serial ∷ map piece_in c.args.behind.now)
    (regex_at rs c.args.regex))) (Some (over rs (atom_in c.args.between.now))) (Some (over rs (atom_in d))))
    (sym c.in-In.is)) c.is_split_at.ensures.ok

pub returns-in-Bool-clause-extends : goal.returns-in-Bool-clause-extends
returns-in-Bool-clause-extends c = extends_same _
