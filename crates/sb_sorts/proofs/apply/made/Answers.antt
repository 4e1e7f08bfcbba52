use Rattle.std.proofs.Common.{get_or, sym, ap, ◌∙◌, arith}
use Rattle.std.proofs.lemmas.Result.{IfOk-weaker}
use Rattle.sb_term.specs.Serials.{has_serials_below}
use Rattle.sb_term.specs.Symbols.{symbol_in}
use Rattle.sb_term.proofs.CallerLemmas.{names_below, belows_at}
use Rattle.sb_sorts.proofs.Applying.{one_made}
use Rattle.sb_sorts.proofs.Reading.{grows_same}
use Rattle.sb_sorts.proofs.apply.made.Goals as goal

pub returns-then-len-eq1-clause-value : goal.returns-then-len-eq1-clause-value
returns-then-len-eq1-clause-value c =
    let i = c.index-deref-0.result in
    one_made (symbol_in c.args.symbol) c.args.table.now c.args.ids.items i (sym c.if-is_of_one.ensures)
    (sym c.len.ensures.value ∙ c.if-len-eq1.true) (c.index-deref-0.is ∙ ap (λ is. get_or is 0 i) c.deref.ensures)

pub returns-then-len-eq1-clause-number : goal.returns-then-len-eq1-clause-number
returns-then-len-eq1-clause-number c =
    let i = c.index-deref-0.result in
    let is = c.index-deref-0.is ∙ ap (λ is. get_or is 0 i) c.deref.ensures in
    omega (arith, is, c.requires 0 i (omega (arith, c.len.ensures.value, c.if-len-eq1.true)))

pub returns-then-len-eq1-clause-grows : goal.returns-then-len-eq1-clause-grows
returns-then-len-eq1-clause-grows c = λ n. grows_same n c.args.table.now

pub returns-else-is_of_one-clause-number : goal.returns-else-is_of_one-clause-number
returns-else-is_of_one-clause-number c =
    IfOk-weaker c.add.result _ _ (λ id named. names_below c.add.new.self id _ named) c.add.ensures.ok

pub returns-else-is_of_one-clause-grows : goal.returns-else-is_of_one-clause-grows
returns-else-is_of_one-clause-grows c = λ n. record {
  extends = c.add.ensures.extends;
  below = λ h. c.add.ensures.only (has_serials_below n) h
      (belows_at n c.args.table.now c.args.ids.items h c.requires);
}
