use Rattle.std.proofs.Common.{sym, subst, ◌∙◌}
use Rattle.sb_script.specs.Brought.{is_structure}
use Rattle.sb_script.specs.Fragment.{fits}
use Rattle.sb_term.specs.Descending.{AreReached}
use Rattle.sb_atoms.specs.Reaching.{connected_parts}
use Rattle.sb_atoms.proofs.Connections.{structure_down}
use Rattle.sb_atoms.proofs.FitFacts.{fits_down}
use Rattle.sb_atoms.proofs.truth.eval.Goals as goal

pub find_truths-requires : goal.find_truths-requires
find_truths-requires c =
    let r = subst (AreReached connected_parts c.args.table.now c.args.id) (sym c.deref.ensures.value) c.in_ok-ids.ensures in record {
      numbers = r.below;
      structure = r.passes is_structure structure_down c.requires.structure;
      fits = r.passes fits fits_down c.requires.fits;
      parts = r.behind;
      ready = record { normals = c.requires.normals; right = c.requires.right };
    }

pub returns-clause-ok : goal.returns-clause-ok
returns-clause-ok c =
    let r = subst (AreReached connected_parts c.args.table.now c.args.id) (sym c.deref.ensures.value) c.in_ok-ids.ensures in
    λ v gives. c.truth_known.ensures ∙ c.in_ok-find_truths.ensures.ok c.args.id r.first v gives
