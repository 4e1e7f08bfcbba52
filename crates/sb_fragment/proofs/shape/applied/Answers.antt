use Rattle.sb_meaning.specs.Terms.{terms_of}
use Rattle.sb_term.specs.Numbered.{terms_at}
use Rattle.sb_fragment.proofs.Structured.{applied_with}
use Rattle.sb_fragment.proofs.shape.applied.Goals as goal

pub returns-in-True : goal.returns-in-True
returns-in-True c = rw c.in-True.is (applied_with _ (terms_of (terms_at c.args.table.now c.args.arguments.now)))

pub returns-in-False : goal.returns-in-False
returns-in-False c = rw c.in-False.is (applied_with _ (terms_of (terms_at c.args.table.now c.args.arguments.now)))

pub returns-in-Not : goal.returns-in-Not
returns-in-Not c = rw c.in-Not.is (applied_with _ (terms_of (terms_at c.args.table.now c.args.arguments.now)))

pub returns-in-And : goal.returns-in-And
returns-in-And c = rw c.in-And.is (applied_with _ (terms_of (terms_at c.args.table.now c.args.arguments.now)))

pub returns-in-Or : goal.returns-in-Or
returns-in-Or c = rw c.in-Or.is (applied_with _ (terms_of (terms_at c.args.table.now c.args.arguments.now)))

pub returns-in-Implies : goal.returns-in-Implies
returns-in-Implies c = rw c.in-Implies.is (applied_with _ (terms_of (terms_at c.args.table.now c.args.arguments.now)))

pub returns-in-Xor : goal.returns-in-Xor
returns-in-Xor c = rw c.in-Xor.is (applied_with _ (terms_of (terms_at c.args.table.now c.args.arguments.now)))

pub returns-in-Ite : goal.returns-in-Ite
returns-in-Ite c = rw c.in-Ite.is (applied_with _ (terms_of (terms_at c.args.table.now c.args.arguments.now)))

pub returns-in-StrPrefixOf : goal.returns-in-StrPrefixOf
returns-in-StrPrefixOf c =
    rw c.in-StrPrefixOf.is (applied_with _ (terms_of (terms_at c.args.table.now c.args.arguments.now)))

pub returns-in-StrSuffixOf : goal.returns-in-StrSuffixOf
returns-in-StrSuffixOf c =
    rw c.in-StrSuffixOf.is (applied_with _ (terms_of (terms_at c.args.table.now c.args.arguments.now)))

pub returns-in-StrContains : goal.returns-in-StrContains
returns-in-StrContains c =
    rw c.in-StrContains.is (applied_with _ (terms_of (terms_at c.args.table.now c.args.arguments.now)))

pub returns-in-StrInRe : goal.returns-in-StrInRe
returns-in-StrInRe c = rw c.in-StrInRe.is (c.member.ensures c.args.table.now)
