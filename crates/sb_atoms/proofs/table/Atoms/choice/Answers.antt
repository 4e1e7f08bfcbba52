use Rattle.std.proofs.Common.{false, get_or, length, refl, ap, arith, ◌∙◌}
use Rattle.std.proofs.lemmas.List.{get_or_default}
use Rattle.sb_facts.proofs.CallerLemmas.{ok_more}
use Rattle.sb_lit.specs.declared.clause.Lit.{Lit}
use Rattle.sb_lit.specs.Clauses.{negation}
use Rattle.sb_rulebook.specs.Translation.{choice, conjunction, implication}
use Rattle.sb_atoms.specs.Growing.{is_below, Gives, GivesLike}
use Rattle.sb_atoms.proofs.Growth.{gates_both, gates_longer}
use Rattle.sb_atoms.proofs.Connected.{below_more, all_below_more, below_at, two_below, gives_same, gives_nothing, not_three, three_of, choice_first_missing, choice_second_missing, choice_both}
use Rattle.sb_atoms.proofs.table.Atoms.choice.Goals as goal

abbrev first : Lit
first = record { atom = 0; positive = false }

pub returns-in_default-clause-ok : goal.returns-in_default-clause-ok
returns-in_default-clause-ok c =
    gives_nothing c.args.adds c.args.self.now choice c.args.literals.now
    (λ atoms others e. not_three atoms others (λ t. omega (arith, e, t, c.in_default.len_below)))

pub returns-in_default-2-clause-ok : goal.returns-in_default-2-clause-ok
returns-in_default-2-clause-ok c =
    let ls = c.args.literals.now in
    choice_first_missing c.args.adds c.implication.new.self (get_or ls 0 first) (get_or ls 1 first) (get_or ls 2 first)
    ls c.in_ok-then.field-0 (three_of ls first c.in-len3.len_at_least c.in-len3.len_below) c.in_default-2.is
    c.in_ok-then.ensures.ok

pub implication-requires-2-clause-one : goal.implication-requires-2-clause-one
implication-requires-2-clause-one c =
    let ls = c.args.literals.now in
    let n = length c.implication.new.self in
    ap (is_below n) c.negated.ensures
    ∙ below_at n ls 0 (get_or ls 0 first)
    (all_below_more (length c.args.self.now) n ls
    (gates_longer c.args.adds c.args.self.now c.implication.new.self c.implication.ensures.grows) c.requires)
    (omega (arith, c.in-len3.len_at_least)) (get_or_default ls 0 first _ (omega (arith, c.in-len3.len_at_least)))

pub implication-requires-2-clause-other : goal.implication-requires-2-clause-other
implication-requires-2-clause-other c =
    let ls = c.args.literals.now in
    let n = length c.implication.new.self in
    below_at n ls 2 (get_or ls 2 first)
    (all_below_more (length c.args.self.now) n ls
    (gates_longer c.args.adds c.args.self.now c.implication.new.self c.implication.ensures.grows) c.requires)
    (omega (arith, c.in-len3.len_at_least)) (get_or_default ls 2 first _ (omega (arith, c.in-len3.len_at_least)))

pub returns-in_err-otherwise-clause-grows : goal.returns-in_err-otherwise-clause-grows
returns-in_err-otherwise-clause-grows c =
    gates_both c.args.adds c.args.self.now c.implication.new.self c.implication-2.new.self c.implication.ensures.grows
    c.implication-2.ensures.grows

pub returns-in_default-3-clause-grows : goal.returns-in_default-3-clause-grows
returns-in_default-3-clause-grows c =
    gates_both c.args.adds c.args.self.now c.implication.new.self c.implication-2.new.self c.implication.ensures.grows
    c.implication-2.ensures.grows

pub returns-in_err-both-clause-grows : goal.returns-in_err-both-clause-grows
returns-in_err-both-clause-grows c =
    gates_both c.args.adds c.args.self.now c.implication.new.self c.implication-2.new.self c.implication.ensures.grows
    c.implication-2.ensures.grows

pub returns-in_default-3-clause-ok : goal.returns-in_default-3-clause-ok
returns-in_default-3-clause-ok c =
    let ls = c.args.literals.now in
    choice_second_missing c.args.adds c.implication.new.self c.implication-2.new.self (get_or ls 0 first)
    (get_or ls 1 first) (get_or ls 2 first) c.in-Some.then ls c.in_ok-then.field-0 c.in_ok-otherwise.field-0
    (three_of ls first c.in-len3.len_at_least c.in-len3.len_below) c.in-Some.is c.in_ok-then.ensures.ok
    c.in_default-3.is
    (gives_same c.args.adds c.implication-2.new.self (λ atoms. implication atoms c.negated.result (get_or ls 2 first))
    (λ atoms. implication atoms (negation (get_or ls 0 first)) (get_or ls 2 first)) c.in_ok-otherwise.field-0
    c.in_ok-otherwise.field-0 refl (λ atoms. ap (λ k. implication atoms k (get_or ls 2 first)) c.negated.ensures)
    c.in_ok-otherwise.ensures.ok) c.implication-2.ensures.grows

pub conjunction-requires : goal.conjunction-requires
conjunction-requires c =
    two_below (length c.implication-2.new.self) c.in-Some.then c.in-Some-2.otherwise c.in_ok-both.both.items
    c.in_ok-both.ensures.items
    (below_more (length c.implication.new.self) (length c.implication-2.new.self) c.in-Some.then
    (gates_longer c.args.adds c.implication.new.self c.implication-2.new.self c.implication-2.ensures.grows)
    (c.in_ok-then.ensures.ok.below c.in-Some.then c.in-Some.is))
    (c.in_ok-otherwise.ensures.ok.below c.in-Some-2.otherwise c.in-Some-2.is)

pub returns-clause-ok : goal.returns-clause-ok
returns-clause-ok c =
    let ls = c.args.literals.now in
    ok_more (λ found. Gives is_below c.args.adds c.conjunction.new.self
    (λ atoms. conjunction atoms c.in_ok-both.both.items) found)
    (λ found. GivesLike c.args.adds c.conjunction.new.self choice ls found) c.conjunction.result
    (λ found h. choice_both c.args.adds c.implication.new.self c.implication-2.new.self c.conjunction.new.self
    (get_or ls 0 first) (get_or ls 1 first) (get_or ls 2 first) c.in-Some.then c.in-Some-2.otherwise ls
    c.in_ok-both.both.items c.in_ok-then.field-0 c.in_ok-otherwise.field-0 found
    (three_of ls first c.in-len3.len_at_least c.in-len3.len_below) c.in-Some.is c.in_ok-then.ensures.ok c.in-Some-2.is
    (gives_same c.args.adds c.implication-2.new.self (λ atoms. implication atoms c.negated.result (get_or ls 2 first))
    (λ atoms. implication atoms (negation (get_or ls 0 first)) (get_or ls 2 first)) c.in_ok-otherwise.field-0
    c.in_ok-otherwise.field-0 refl (λ atoms. ap (λ k. implication atoms k (get_or ls 2 first)) c.negated.ensures)
    c.in_ok-otherwise.ensures.ok) c.implication-2.ensures.grows c.in_ok-both.ensures.items h
    c.conjunction.ensures.grows) c.conjunction.ensures.ok

pub returns-clause-grows : goal.returns-clause-grows
returns-clause-grows c =
    gates_both c.args.adds c.args.self.now c.implication-2.new.self c.conjunction.new.self
    (gates_both c.args.adds c.args.self.now c.implication.new.self c.implication-2.new.self
    c.implication.ensures.grows c.implication-2.ensures.grows) c.conjunction.ensures.grows
