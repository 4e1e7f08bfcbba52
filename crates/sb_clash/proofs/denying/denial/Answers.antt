use Rattle.sb_clash.proofs.Words.{subst, sym, Ascend, IsPermutation}
use Rattle.sb_clash.proofs.DenialFacts.{ascends}
use Rattle.sb_clash.proofs.denying.denial.Goals as goal

pub returns-clause-ascend : goal.returns-clause-ascend
returns-clause-ascend c =
    subst Ascend (sym c.from_literals.ensures)
    (ascends c.args.literals.now c.sort_unstable.new.self.items c.requires.single
    (subst (λ all. IsPermutation all c.sort_unstable.new.self.items) c.in_ok-negations.ensures
    c.sort_unstable.ensures.permutation) c.sort_unstable.ensures.sorted)
