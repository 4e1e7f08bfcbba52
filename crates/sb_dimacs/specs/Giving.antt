-- Private: what the theory of a case answers where a lemma is false.
use Rattle.std.specs.Prelude.{◌≡◌, ◌<◌, List}
use Rattle.sb_lit.specs.declared.clause.Lit.{Lit}
use Rattle.sb_lit.specs.Budgets.{Spending}
use Rattle.sb_search.specs.declared.theory.Checked.{Checked}
use Rattle.sb_search.specs.declared.theory.Checked.TheVariants as checked

-- it is the lemma, for a step, or all is spent
abbrev pub Gives : List Lit → Spending → Spending → Checked → Type 0
Gives lemma old new checked.Fine = ⊥
Gives lemma old new (checked.Lemma clause) = (clause ≡ lemma) × (old.spent < new.spent)
Gives lemma old new (checked.Ask l) = ⊥
Gives lemma old new checked.Spent = new.spent ≡ new.limit
