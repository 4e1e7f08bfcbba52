use Rattle.std.proofs.Common.{length, option_map, ap, ◌∙◌}
use Rattle.sb_facts.proofs.CallerLemmas.{ok_more}
use Rattle.std.specs.Prelude.{vec_items}
use Rattle.sb_rulebook.specs.Translation.{conjunction}
use Rattle.sb_fragment.specs.declared.shape.Connective.TheVariants as connective
use Rattle.sb_atoms.specs.Connecting.{connected}
use Rattle.sb_atoms.specs.Growing.{is_below, are_pairs_below, Gives, GivesLike}
use Rattle.sb_fragment.proofs.CallerLemmas.{items_some}
use Rattle.sb_atoms.proofs.Growth.{gates_both}
use Rattle.sb_atoms.proofs.Connected.{compared_below, comparison_made, comparison_missing}
use Rattle.sb_atoms.proofs.table.Atoms.comparison.Goals as goal

pub equivalences-requires : goal.equivalences-requires
equivalences-requires c =
    ap (are_pairs_below (length c.args.self.now)) (c.deref.ensures.value ∙ c.in_ok-pairs.ensures)
    ∙ compared_below (length c.args.self.now) c.args.distinct c.args.literals.now c.requires

pub conjunction-requires : goal.conjunction-requires
conjunction-requires c =
    c.in_ok-found.ensures.ok.below c.in-Some.found.items (items_some c.in_ok-found.field-0 c.in-Some.found c.in-Some.is)

pub returns-in-Some-clause-ok : goal.returns-in-Some-clause-ok
returns-in-Some-clause-ok c =
    ok_more (λ found. Gives is_below c.args.adds c.conjunction.new.self (λ atoms. conjunction atoms c.in-Some.found.items)
    found)
    (λ found. GivesLike c.args.adds c.conjunction.new.self (connected (connective.Compare c.args.distinct))
    c.args.literals.now found)
    c.conjunction.result
    (λ found h. comparison_made c.args.adds c.args.distinct c.equivalences.new.self c.conjunction.new.self
    c.args.literals.now c.in-Some.found.items c.deref.result.now _ found
    (c.deref.ensures.value ∙ c.in_ok-pairs.ensures) (items_some c.in_ok-found.field-0 c.in-Some.found c.in-Some.is)
    c.in_ok-found.ensures.ok c.conjunction.ensures.grows h)
    c.conjunction.ensures.ok

pub returns-in-Some-clause-grows : goal.returns-in-Some-clause-grows
returns-in-Some-clause-grows c =
    gates_both c.args.adds c.args.self.now c.equivalences.new.self c.conjunction.new.self c.equivalences.ensures.grows
    c.conjunction.ensures.grows

pub returns-clause-ok : goal.returns-clause-ok
returns-clause-ok c =
    comparison_missing c.args.adds c.args.distinct c.equivalences.new.self c.args.literals.now c.deref.result.now _
    (c.deref.ensures.value ∙ c.in_ok-pairs.ensures) (ap (option_map (λ v. vec_items v)) c.in-None.is)
    c.in_ok-found.ensures.ok
