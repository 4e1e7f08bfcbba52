use Rattle.std.proofs.Common.{sym, ◌∙◌}
use Rattle.sb_regex.proofs.CallerLemmas.{extends_same}
use Rattle.sb_atoms.specs.Numbered.{atoms_in}
use Rattle.sb_rules.proofs.Few.{long_no_step}
use Rattle.sb_rules.proofs.steps.is_step.Goals as goal

pub returns-then-is_long-clause-ok : goal.returns-then-is_long-clause-ok
returns-then-is_long-clause-ok c =
    long_no_step (atoms_in c.args.arena.now c.args.atoms.now) c.args.clause.now c.requires.ascending
    (sym c.is_long.ensures ∙ c.if-is_long.true)

pub returns-clause-ok : goal.returns-clause-ok
returns-clause-ok c = c.begin_step.ensures.ok

pub returns-then-is_long-clause-extends : goal.returns-then-is_long-clause-extends
returns-then-is_long-clause-extends c = extends_same _
