use Rattle.std.proofs.Common.{sym, ◌∙◌}
use Rattle.sb_facts.proofs.CallerLemmas.{ok_more}
use Rattle.sb_term.specs.Numbered.{term_at}
use Rattle.sb_rulebook.specs.Translation.{translation}
use Rattle.sb_atoms.specs.Translated.{brought_translation}
use Rattle.sb_atoms.specs.Growing.{is_below, Finds}
use Rattle.sb_atoms.proofs.Found.{brought_is, brought_none, finds_none, finds_other}
use Rattle.sb_atoms.proofs.table.Atoms.find_or_add.Goals as goal

pub structure-requires-clause-structure : goal.structure-requires-clause-structure
structure-requires-clause-structure c = sym c.in_ok-is_structure.ensures.ok ∙ c.if-branch.true

pub returns-then-branch-clause-ok : goal.returns-then-branch-clause-ok
returns-then-branch-clause-ok c =
    let t = term_at c.args.table.now c.args.id in
    ok_more (λ found. Finds is_below c.args.adds c.structure.new.arena c.structure.new.self
    (λ atoms. translation atoms t) found)
    (λ found. Finds is_below c.args.adds c.structure.new.arena c.structure.new.self
    (λ atoms. brought_translation atoms t) found) c.structure.result
    (λ found h. finds_other c.args.adds c.structure.new.arena c.structure.new.self (λ atoms. translation atoms t)
    (λ atoms. brought_translation atoms t) found
    (brought_is t c.in_ok-is_structure.field-0 c.in_ok-is_structure.ensures.ok c.if-branch.true) h)
    c.structure.ensures.ok

pub returns-else-branch-clause-ok : goal.returns-else-branch-clause-ok
returns-else-branch-clause-ok c =
    let t = term_at c.args.table.now c.args.id in
    finds_none c.args.adds c.args.arena.now c.args.self.now (λ atoms. brought_translation atoms t)
    (brought_none t c.in_ok-is_structure.field-0 c.in_ok-is_structure.ensures.ok c.if-branch.false)
