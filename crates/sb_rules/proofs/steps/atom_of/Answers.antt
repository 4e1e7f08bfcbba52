use Rattle.std.proofs.Common.{subst}
use Rattle.sb_proof.specs.Lines.{atom_in}
use Rattle.sb_atoms.specs.Numbered.{Names}
use Rattle.sb_rules.proofs.steps.atom_of.Goals as goal

pub returns : goal.returns
returns c =
    subst (λ n. Names c.args.atoms.now n (atom_in c.describe.result.now)) c.of.ensures c.describe.ensures.names
