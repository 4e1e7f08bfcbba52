use Rattle.std.proofs.Common.{◌≡◌, true, ap, sym, subst}
use Rattle.sb_stack.specs.Speaking.{are_assumed}
use Rattle.sb_stack.specs.Stacked.{Stacked, live_constants}
use Rattle.sb_stack.proofs.stack.Stack.check_under.Goals as goal

pub invariant_of-self : goal.invariant_of-self
invariant_of-self c = record {
  kept = c.self.invariant.kept;
  assumed = subst (λ (k : Stacked). are_assumed (live_constants k) c.args.assumptions.items ≡ true) (sym c.self.view_is)
      c.requires;
}

pub returns-clause-given : goal.returns-clause-given
returns-clause-given c = ap (λ (k : Stacked). record k { assumptions = c.args.assumptions.items }) c.self.view_is
