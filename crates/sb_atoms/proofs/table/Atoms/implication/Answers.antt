use Rattle.std.proofs.Common.{length, [], ◌∷◌, refl, ap, ◌∙◌}
use Rattle.sb_facts.proofs.CallerLemmas.{ok_more}
use Rattle.sb_rulebook.specs.Translation.{conjunction, implication, negated}
use Rattle.sb_atoms.specs.Growing.{is_below, Gives}
use Rattle.sb_atoms.proofs.Connected.{gives_same, pair_below}
use Rattle.sb_atoms.proofs.table.Atoms.implication.Goals as goal

pub denial-requires : goal.denial-requires
denial-requires c =
    pair_below (length c.args.self.now) c.args.one c.args.other c.negated.result c.in_ok-literals.literals.items
    c.in_ok-literals.ensures.items c.negated.ensures c.requires.one c.requires.other

pub returns-clause-ok : goal.returns-clause-ok
returns-clause-ok c =
    ok_more (λ found. Gives is_below c.args.adds c.denial.new.self
    (λ atoms. negated (conjunction atoms c.in_ok-literals.literals.items)) found)
    (λ found. Gives is_below c.args.adds c.denial.new.self
    (λ atoms. implication atoms c.args.one c.args.other) found) c.denial.result
    (λ found h. gives_same c.args.adds c.denial.new.self
    (λ atoms. negated (conjunction atoms c.in_ok-literals.literals.items))
    (λ atoms. implication atoms c.args.one c.args.other) found found refl
    (λ atoms. ap (λ ls. negated (conjunction atoms ls))
    (c.in_ok-literals.ensures.items ∙ ap (λ k. c.args.one ∷ k ∷ []) c.negated.ensures)) h)
    c.denial.ensures.ok
