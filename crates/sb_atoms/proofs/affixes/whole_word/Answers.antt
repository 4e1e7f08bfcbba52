use Rattle.std.proofs.Common.{length, arith}
use Rattle.std.proofs.lemmas.Bool.Decides.{nat_tests}
use Rattle.sb_term.specs.Numbered.{term_at}
use Rattle.sb_atoms.proofs.AffixFacts.{no_whole, whole_is, whole_past}
use Rattle.sb_atoms.proofs.affixes.whole_word.Goals as goal

pub returns-in_default-clause-ok : goal.returns-in_default-clause-ok
returns-in_default-clause-ok c =
    let none = rw c.in_default.is at c.in_ok-word.ensures.ok in
    no_whole (term_at c.args.table.now c.args.id) none
