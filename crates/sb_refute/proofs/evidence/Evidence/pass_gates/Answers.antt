use Rattle.sb_refute.proofs.Words.{◌<◌, ◌+◌, length, sym, ap, subst, Backing, HasGatesOf, backing_of}
use Rattle.sb_refute.proofs.Holding.{stand-gates}
use Rattle.sb_refute.proofs.evidence.Evidence.pass_gates.Goals as goal

pub invariant_of-self : goal.invariant_of-self
invariant_of-self c = (
  stand-gates (backing_of c.self.inside.parts)
      (subst (λ (v : Backing). v.gates < length v.atoms) (sym c.self.view_is) c.requires.lacking)
      (subst (λ (v : Backing). HasGatesOf v.gates v.atoms v.kept) (sym c.self.view_is) c.requires.kept)
      c.self.invariant.0,
  c.self.invariant.1,
)

pub returns : goal.returns
returns c = ap (λ (v : Backing). record v { gates = v.gates + 1 }) c.self.view_is
