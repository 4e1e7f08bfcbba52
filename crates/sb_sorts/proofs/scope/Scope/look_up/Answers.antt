use Rattle.std.proofs.Common.{length, ap, ◌∙◌}
use Rattle.std.specs.List.{list_all}
use Rattle.sb_script.specs.Scopes as meaning
use Rattle.sb_sorts.specs.Scopes.{ScopeNames, names_in, is_body_below}
use Rattle.sb_sorts.proofs.Kept.{lookup_lent, lent_below, lent_body}
use Rattle.sb_sorts.proofs.scope.Scope.look_up.Goals as goal

pub returns : goal.returns
returns c =
    let es = c.self.inside.names.entries in
    let name = c.args.name.now in
    record {
      value = λ ts. lookup_lent ts es name c.get.result c.get.ensures.value
          ∙ ap (λ kept. meaning.named (names_in ts kept) name) c.self.view_is;
      serial = lent_below (length c.self.inside.sorts.items) (length c.args.self.now.sorts) _ es c.get.result
          c.get.ensures.value (ap (λ kept. length kept.sorts) c.self.view_is) c.self.invariant.ascend;
      body = λ ts bodies. lent_body (length ts) _ es c.get.result c.get.ensures.value
          (ap (λ (kept : ScopeNames). list_all (λ n. is_body_below (length ts) n.1) kept.names) c.self.view_is
          ∙ bodies);
    }
