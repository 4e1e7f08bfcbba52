use Rattle.std.proofs.Common.{Bool, [], if◌then◌else◌, refl, sym, ap, ◌∙◌}
use Rattle.sb_facts.proofs.CallerLemmas.{ok_more}
use Rattle.sb_rulebook.specs.Translation.{conjunction, negated}
use Rattle.sb_atoms.specs.Growing.{is_below, Gives}
use Rattle.sb_atoms.proofs.Connected.{gives_same}
use Rattle.sb_atoms.proofs.table.Atoms.always.Goals as goal

pub returns-then-truth-clause-ok : goal.returns-then-truth-clause-ok
returns-then-truth-clause-ok c =
    ok_more (λ found. Gives is_below c.args.adds c.conjunction.new.self
    (λ atoms. conjunction atoms c.new-none.result.items) found)
    (λ found. Gives is_below c.args.adds c.conjunction.new.self
    (λ atoms. if c.args.truth then conjunction atoms [] else negated (conjunction atoms [])) found) c.conjunction.result
    (λ found h. gives_same c.args.adds c.conjunction.new.self (λ atoms. conjunction atoms c.new-none.result.items)
    (λ atoms. if c.args.truth then conjunction atoms [] else negated (conjunction atoms [])) found found refl
    (λ atoms. ap (conjunction atoms) c.new-none.ensures.items
    ∙ sym (ap (λ (b : Bool). if b then conjunction atoms [] else negated (conjunction atoms [])) c.if-truth.true)) h)
    c.conjunction.ensures.ok

pub returns-else-truth-clause-ok : goal.returns-else-truth-clause-ok
returns-else-truth-clause-ok c =
    ok_more (λ found. Gives is_below c.args.adds c.denial.new.self
    (λ atoms. negated (conjunction atoms c.new-none.result.items)) found)
    (λ found. Gives is_below c.args.adds c.denial.new.self
    (λ atoms. if c.args.truth then conjunction atoms [] else negated (conjunction atoms [])) found) c.denial.result
    (λ found h. gives_same c.args.adds c.denial.new.self
    (λ atoms. negated (conjunction atoms c.new-none.result.items))
    (λ atoms. if c.args.truth then conjunction atoms [] else negated (conjunction atoms [])) found found refl
    (λ atoms. ap (λ ls. negated (conjunction atoms ls)) c.new-none.ensures.items
    ∙ sym (ap (λ (b : Bool). if b then conjunction atoms [] else negated (conjunction atoms [])) c.if-truth.false)) h)
    c.denial.ensures.ok
