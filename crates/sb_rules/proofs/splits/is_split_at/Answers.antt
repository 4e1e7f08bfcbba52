use Rattle.std.proofs.Common.{[], ◌∷◌, ◌&&◌, sym, ap, ◌∙◌}
use Rattle.sb_lang.specs.Constructors.{mkpath}
use Rattle.sb_regex.specs.Numbered.{regex_at}
use Rattle.sb_regex.proofs.CallerLemmas.{extends_same}
use Rattle.sb_script.specs.Pieces.{constant_piece}
use Rattle.sb_rulebook.specs.Atoms.{in_atom, is_same_atom}
use Rattle.sb_proof.specs.Lines.{atom_in}
use Rattle.sb_atoms.specs.Numbered.{over}
use Rattle.sb_rules.proofs.Parting.{ok_for}
use Rattle.sb_rules.proofs.splits.is_split_at.Goals as goal

pub returns-then-not-are_same-clause-ok : goal.returns-then-not-are_same-clause-ok
returns-then-not-are_same-clause-ok c =
    let rs = c.args.arena.now in
    ap (λ t. t && is_same_atom (in_atom (constant_piece c.args.serial ∷ [])
    (mkpath (regex_at rs c.args.regex) (regex_at rs c.args.target))) (over rs (atom_in c.args.between.now)))
    (sym c.if-not-are_same.true ∙ c.are_same.ensures)

pub returns-clause-ok : goal.returns-clause-ok
returns-clause-ok c =
    let rs = c.args.arena.now in
    ok_for c.leads.result _ _
    (ap (λ t. t && is_same_atom (in_atom (constant_piece c.args.serial ∷ [])
    (mkpath (regex_at rs c.args.regex) (regex_at rs c.args.target))) (over rs (atom_in c.args.between.now)))
    (sym c.if-not-are_same.false ∙ c.are_same.ensures)) c.leads.ensures.ok

pub returns-then-not-are_same-clause-extends : goal.returns-then-not-are_same-clause-extends
returns-then-not-are_same-clause-extends c = extends_same _
