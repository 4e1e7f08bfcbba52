use Rattle.std.proofs.Common.{length, refl, ap, ◌∙◌}
use Rattle.sb_facts.proofs.CallerLemmas.{ok_more}
use Rattle.sb_rulebook.specs.Translation.{conjunction, disjunction, negated}
use Rattle.sb_atoms.specs.Growing.{is_below, are_below, Gives}
use Rattle.sb_atoms.proofs.Ordered.{below_negations}
use Rattle.sb_atoms.proofs.Connected.{gives_same}
use Rattle.sb_atoms.proofs.table.Atoms.disjunction.Goals as goal

pub denial-requires : goal.denial-requires
denial-requires c =
    ap (are_below (length c.args.self.now)) c.in_ok-negations.ensures
    ∙ below_negations (length c.args.self.now) c.args.literals.now
    ∙ c.requires

pub returns-clause-ok : goal.returns-clause-ok
returns-clause-ok c =
    ok_more (λ found. Gives is_below c.args.adds c.denial.new.self
    (λ atoms. negated (conjunction atoms c.in_ok-negations.negations.items)) found)
    (λ found. Gives is_below c.args.adds c.denial.new.self (λ atoms. disjunction atoms c.args.literals.now) found)
    c.denial.result
    (λ found h. gives_same c.args.adds c.denial.new.self
    (λ atoms. negated (conjunction atoms c.in_ok-negations.negations.items))
    (λ atoms. disjunction atoms c.args.literals.now) found found refl
    (λ atoms. ap (λ ls. negated (conjunction atoms ls)) c.in_ok-negations.ensures) h)
    c.denial.ensures.ok
