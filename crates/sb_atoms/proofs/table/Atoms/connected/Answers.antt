use Rattle.sb_rulebook.specs.Translation.{conjunction, disjunction, implications, exclusive, choice}
use Rattle.sb_facts.proofs.CallerLemmas.{ok_more}
use Rattle.sb_fragment.specs.declared.shape.Connective.TheVariants as connective
use Rattle.sb_atoms.specs.Connecting.{connected}
use Rattle.sb_atoms.specs.Growing.{is_below, Gives, GivesLike}
use Rattle.sb_atoms.proofs.Connected.{gives_denied, gives_like, like_items}
use Rattle.sb_atoms.proofs.table.Atoms.connected.Goals as goal

pub returns-in-Not-clause-ok : goal.returns-in-Not-clause-ok
returns-in-Not-clause-ok c =
    rw c.in-Not.is (gives_denied c.args.adds c.args.self.now c.args.literals.items c.deref.result.now c.denied.result
    c.deref.ensures.value c.denied.ensures c.requires)

pub returns-in-And-clause-ok : goal.returns-in-And-clause-ok
returns-in-And-clause-ok c =
    rw c.in-And.is (ok_more (λ found. Gives is_below c.args.adds c.conjunction.new.self
    (λ atoms. conjunction atoms c.args.literals.items) found)
    (λ found. GivesLike c.args.adds c.conjunction.new.self (connected connective.And) c.args.literals.items found)
    c.conjunction.result
    (λ found h. gives_like c.args.adds c.conjunction.new.self conjunction c.args.literals.items found h)
    c.conjunction.ensures.ok)

pub returns-in-Or-clause-ok : goal.returns-in-Or-clause-ok
returns-in-Or-clause-ok c =
    rw c.in-Or.is (ok_more (λ found. Gives is_below c.args.adds c.disjunction.new.self
    (λ atoms. disjunction atoms c.deref-in-Or.result.now) found)
    (λ found. GivesLike c.args.adds c.disjunction.new.self (connected connective.Or) c.args.literals.items found)
    c.disjunction.result
    (λ found h. like_items c.args.adds c.disjunction.new.self disjunction c.deref-in-Or.result.now c.args.literals.items found
    c.deref-in-Or.ensures.value
    (gives_like c.args.adds c.disjunction.new.self disjunction c.deref-in-Or.result.now found h))
    c.disjunction.ensures.ok)

pub returns-in-Implies-clause-ok : goal.returns-in-Implies-clause-ok
returns-in-Implies-clause-ok c =
    rw c.in-Implies.is (ok_more (λ found. GivesLike c.args.adds c.implications.new.self implications
    c.deref-in-Implies.result.now found)
    (λ found. GivesLike c.args.adds c.implications.new.self (connected connective.Implies) c.args.literals.items found)
    c.implications.result
    (λ found h. like_items c.args.adds c.implications.new.self implications c.deref-in-Implies.result.now c.args.literals.items
    found c.deref-in-Implies.ensures.value h)
    c.implications.ensures.ok)

pub returns-in-Xor-clause-ok : goal.returns-in-Xor-clause-ok
returns-in-Xor-clause-ok c =
    rw c.in-Xor.is (ok_more (λ found. GivesLike c.args.adds c.exclusive.new.self exclusive
    c.deref-in-Xor.result.now found)
    (λ found. GivesLike c.args.adds c.exclusive.new.self (connected connective.Xor) c.args.literals.items found)
    c.exclusive.result
    (λ found h. like_items c.args.adds c.exclusive.new.self exclusive c.deref-in-Xor.result.now c.args.literals.items
    found c.deref-in-Xor.ensures.value h)
    c.exclusive.ensures.ok)

pub returns-in-Ite-clause-ok : goal.returns-in-Ite-clause-ok
returns-in-Ite-clause-ok c =
    rw c.in-Ite.is (ok_more (λ found. GivesLike c.args.adds c.choice.new.self choice
    c.deref-in-Ite.result.now found)
    (λ found. GivesLike c.args.adds c.choice.new.self (connected connective.Ite) c.args.literals.items found)
    c.choice.result
    (λ found h. like_items c.args.adds c.choice.new.self choice c.deref-in-Ite.result.now c.args.literals.items
    found c.deref-in-Ite.ensures.value h)
    c.choice.ensures.ok)
