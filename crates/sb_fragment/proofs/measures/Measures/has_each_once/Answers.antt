use Rattle.std.proofs.Common.{sym, subst, arith}
use Rattle.sb_fragment.specs.Measures.{AreMeasures}
use Rattle.sb_fragment.proofs.measures.Measures.has_each_once.Goals as goal

pub has_each_once-requires : goal.has_each_once-requires
has_each_once-requires c = record {
  number = omega (arith, c.in_ok-extend.ensures.reached, c.deref.ensures.len);
  right = subst (AreMeasures c.args.table.now) (sym c.deref.ensures.value) c.in_ok-extend.ensures.right;
}
