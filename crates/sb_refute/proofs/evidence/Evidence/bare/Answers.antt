use Rattle.sb_proof.specs.Lines.{atom_in}
use Rattle.sb_refute.proofs.Words.{◌<◌, ℕ, length, sym, subst, IfOk-weaker, Backing, Names}
use Rattle.sb_refute.proofs.evidence.Evidence.bare.Goals as goal

pub describe-requires : goal.describe-requires
describe-requires c =
    subst (λ (n : ℕ). n < length c.self.inside.parts.atoms) (sym c.of-id.ensures)
    (subst (λ (v : Backing). c.args.atom < length v.atoms) (sym c.self.view_is) c.requires)

pub bare_of-requires : goal.bare_of-requires
bare_of-requires c =
    c.self.invariant.0.formed c.of-id.result (atom_in c.describe.result.now) c.describe.ensures.names

pub returns : goal.returns
returns c =
    let a = atom_in c.describe.result.now in
    IfOk-weaker c.bare_of.result _ _
    (λ found h. (
      a,
      subst (λ (v : Backing). Names v.atoms c.args.atom a) c.self.view_is
          (subst (λ (n : ℕ). Names c.self.inside.parts.atoms n a) c.of-id.ensures c.describe.ensures.names),
      h,
    ))
    c.bare_of.ensures
