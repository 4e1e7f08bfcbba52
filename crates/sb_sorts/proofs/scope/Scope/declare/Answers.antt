use Rattle.std.proofs.Common.{[], ◌∷◌, ◌++◌, length, ap, sym, subst, ◌∙◌, arith}
use Rattle.sb_script.specs.Symbols.{is_taken}
use Rattle.sb_sorts.specs.Scopes.{names_in}
use Rattle.sb_sorts.specs.NameTable.{kept_in, namings_in, HasSerials}
use Rattle.sb_sorts.proofs.Kept.{untaken_none, one_more}
use Rattle.sb_sorts.proofs.scope.Scope.declare.Goals as goal

pub push_name-requires : goal.push_name-requires
push_name-requires c =
    untaken_none (namings_in [] c.self.inside.names.entries) c.args.name.now
    (ap (λ kept. is_taken (names_in [] kept) c.args.name.now) c.self.view_is ∙ c.in_ok-refuse_taken.ensures.ok [])

pub invariant_of-self-2 : goal.invariant_of-self-2
invariant_of-self-2 c =
    subst (λ ns. HasSerials ns c.push.new.self.items) (sym c.in_ok-push_name.ensures.ok)
    (one_more (kept_in c.self.inside.names.entries) c.args.name.now c.args.sort c.self.inside.sorts.items
    c.push.new.self.items c.len.result
    (omega (arith, c.len.ensures, c.reserve.new.self.ok.0, ap length c.reserve.ensures.items))
    (c.in_ok-push.ensures.items ∙ ap (λ xs. xs ++ c.args.sort ∷ []) c.reserve.ensures.items) c.self.invariant)
