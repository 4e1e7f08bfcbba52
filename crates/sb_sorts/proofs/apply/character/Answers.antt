use Rattle.std.proofs.Common.{ap, ◌∙◌, refl}
use Rattle.std.proofs.lemmas.Result.{IfOk-weaker}
use Rattle.sb_meaning.specs.Terms.{word}
use Rattle.sb_term.specs.Serials.{has_serials_below}
use Rattle.sb_term.proofs.CallerLemmas.{names_at, names_below}
use Rattle.sb_sorts.proofs.Reading.{grows_same}
use Rattle.sb_sorts.proofs.apply.character.Goals as goal

pub returns-clause-value : goal.returns-clause-value
returns-clause-value c =
    IfOk-weaker c.add.result _ _
    (λ id named. names_at c.add.new.self id (word c.in_ok-vec.field-0.items) named ∙ ap word c.in_ok-vec.ensures.items)
    c.add.ensures.ok

pub returns-clause-number : goal.returns-clause-number
returns-clause-number c =
    IfOk-weaker c.add.result _ _ (λ id named. names_below c.add.new.self id _ named) c.add.ensures.ok

pub returns-clause-grows : goal.returns-clause-grows
returns-clause-grows c = λ n. record {
  extends = c.add.ensures.extends;
  below = λ h. c.add.ensures.only (has_serials_below n) h refl;
}

pub returns-in_err-vec-clause-grows : goal.returns-in_err-vec-clause-grows
returns-in_err-vec-clause-grows c = λ n. grows_same n c.args.table.now
