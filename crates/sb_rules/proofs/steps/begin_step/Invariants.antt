use Rattle.std.proofs.Common.{◌≡◌, drop}
use Rattle.std.specs.List.{list_any}
use Rattle.sb_regex.specs.Numbered.{Extends}
use Rattle.sb_atoms.specs.Numbered.{atoms_in}
use Rattle.sb_rules.specs.Stepping.{AreReady, begins_step}
use Rattle.sb_rules.proofs.steps.begin_step.Given as goal

abbrev pub invariant-loop-literal : goal.invariant-loop-literal
invariant-loop-literal l = record {
  extends : Extends l.fn.arena l.arena;
  ready : AreReady l.atoms l.arena l.plain;
  so : list_any (begins_step (atoms_in l.fn.arena l.atoms) l.clause) (drop l.literal-index l.clause)
      ≡ list_any (begins_step (atoms_in l.fn.arena l.atoms) l.clause) l.clause;
}
