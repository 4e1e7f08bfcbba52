use Rattle.std.proofs.Common.{◌≡◌, drop}
use Rattle.std.specs.List.{list_any}
use Rattle.sb_regex.specs.Numbered.{Extends}
use Rattle.sb_atoms.specs.Numbered.{atoms_in}
use Rattle.sb_rules.specs.Stepping.{is_split_with}
use Rattle.sb_rules.proofs.steps.is_split_by.Given as goal

abbrev pub invariant-loop-literal : goal.invariant-loop-literal
invariant-loop-literal l = record {
  extends : Extends l.fn.arena l.arena;
  so : list_any (is_split_with (atoms_in l.fn.arena l.atoms) l.clause l.one l.other) (drop l.literal-index l.clause)
      ≡ list_any (is_split_with (atoms_in l.fn.arena l.atoms) l.clause l.one l.other) l.clause;
}
