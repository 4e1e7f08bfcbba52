use Rattle.std.proofs.Common.{[], refl, ap, ◌∙◌}
use Rattle.sb_script.specs.Symbols.{is_taken}
use Rattle.sb_sorts.specs.Scopes.{names_in}
use Rattle.sb_sorts.specs.NameTable.{namings_in}
use Rattle.sb_sorts.proofs.Kept.{untaken_none, names_pushed}
use Rattle.sb_sorts.proofs.scope.Scope.mark.Goals as goal

pub invariant_of-self : goal.invariant_of-self
invariant_of-self c =
    names_pushed c.self.inside.names.entries c.push_name.new.names.entries c.self.inside.sorts.items _
    c.push_name.result refl c.push_name.ensures.ok c.push_name.ensures.err c.self.invariant

pub push_name-requires : goal.push_name-requires
push_name-requires c =
    untaken_none (namings_in [] c.self.inside.names.entries) c.args.name.now
    (ap (λ kept. is_taken (names_in [] kept) c.args.name.now) c.self.view_is ∙ c.in_ok-refuse_taken.ensures.ok [])
