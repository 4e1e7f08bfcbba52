use Rattle.std.proofs.Common.{subst, sym}
use Rattle.sb_term.specs.Descending.{AreReached}
use Rattle.sb_fragment.specs.Ruled.{ruled_parts}
use Rattle.sb_fragment.proofs.ruled.keeps.Goals as goal

pub keep_each-requires : goal.keep_each-requires
keep_each-requires c =
    let reached = subst (AreReached ruled_parts c.args.table.now c.args.id) (sym c.deref.ensures.value)
    c.in_ok-ids.ensures in
    record { numbers = reached.below; parts = reached.behind; right = c.requires.right }

pub returns : goal.returns
returns c = record {
  ok = c.in_ok-kept.ensures.ok c.args.id
      (subst (AreReached ruled_parts c.args.table.now c.args.id) (sym c.deref.ensures.value) c.in_ok-ids.ensures);
  right = c.in_ok-kept.ensures.right;
}
