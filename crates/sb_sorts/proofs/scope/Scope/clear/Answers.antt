use Rattle.std.proofs.Common.{[], false, ap, ◌∙◌}
use Rattle.sb_sorts.specs.Scopes.{ScopeNames}
use Rattle.sb_sorts.specs.NameTable.{kept_in}
use Rattle.sb_sorts.proofs.Kept.{made, no_names}
use Rattle.sb_sorts.proofs.scope.Scope.clear.Goals as goal

pub invariant_of-self : goal.invariant_of-self
invariant_of-self c = no_names c.clear.new.self.entries c.self.inside.sorts.items c.clear.ensures.empty

pub returns : goal.returns
returns c =
    ap (λ es. made c.self.inside.sorts.items false (kept_in es)) c.clear.ensures.empty
    ∙ ap (λ (k : ScopeNames). record k { names = []; global = false }) c.self.view_is
