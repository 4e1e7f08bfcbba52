use Rattle.std.proofs.Common.{refl}
use Rattle.sb_proof.specs.Lines.{atom_in}
use Rattle.sb_rules.proofs.Atomic.{kept_before}
use Rattle.sb_rules.proofs.kept.Kept.add_atom.Goals as goal

pub returns-in-Some-clause-defines : goal.returns-in-Some-clause-defines
returns-in-Some-clause-defines c = λ others. (
  kept_before c.order_tells_apart.ensures c.args.self.now others (atom_in c.args.atom) _ c.in-Some.ensures,
  refl,
)
