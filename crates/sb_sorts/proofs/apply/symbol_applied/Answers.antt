use Rattle.std.proofs.Common.{length, map, sym, ap, subst, ◌∙◌}
use Rattle.std.proofs.lemmas.Result.{err_from_is_err_and}
use Rattle.sb_meaning.specs.Sorts.{is_count, takes_sorts, is_left_out_use, sort_of}
use Rattle.sb_term.specs.Numbered.{terms_at, AllNumbers}
use Rattle.sb_term.specs.Symbols.{sort_in}
use Rattle.sb_sorts.specs.declared.read.ReadFault.TheVariants.{NoMemory}
use Rattle.sb_sorts.specs.Heads.{arity_in}
use Rattle.sb_sorts.proofs.Applying.{counted_sorts, by_same, as_many_terms, uncounted, unfit, left_out, taken_in}
use Rattle.sb_sorts.proofs.Reading.{grows_same, exits}
use Rattle.sb_sorts.proofs.apply.symbol_applied.Goals as goal

pub sorts_of-requires : goal.sorts_of-requires
sorts_of-requires c = subst (AllNumbers c.args.table.now) (sym c.deref.ensures) c.requires

pub takes_sorts-requires : goal.takes_sorts-requires
takes_sorts-requires c =
    let arity = arity_in c.arity_of-arity.result in
    ap (λ sorts. is_count arity (length sorts)) c.deref-2.ensures.value
    ∙ counted_sorts arity c.is_count.result c.len.result c.args.table.now c.deref.result.now c.in_ok-sorts.sorts.items
    c.is_count.ensures c.if-not-is_count.false (c.len.ensures.value ∙ ap length (sym c.deref.ensures))
    c.in_ok-sorts.ensures

pub returns-then-not-is_count-clause-reads : goal.returns-then-not-is_count-clause-reads
returns-then-not-is_count-clause-reads c =
    uncounted _ _ _ _
    (by_same is_count _ _ _ _ c.is_count.result c.is_count.ensures c.arity_of-arity.ensures
    (c.len.ensures.value ∙ as_many_terms c.args.table.now c.args.ids.items)
    ∙ c.if-not-is_count.true)

pub returns-then-not-is_count-clause-grows : goal.returns-then-not-is_count-clause-grows
returns-then-not-is_count-clause-grows c = λ n. grows_same n c.args.table.now

pub returns-in_err-sorts-clause-reads : goal.returns-in_err-sorts-clause-reads
returns-in_err-sorts-clause-reads c =
    let p = err_from_is_err_and c.from_residual.result c.from_residual.ensures.1 in
    exits c.args.table.now _ c.from_residual.result NoMemory p.0 p.1 p.2 tt

pub returns-in_err-sorts-clause-grows : goal.returns-in_err-sorts-clause-grows
returns-in_err-sorts-clause-grows c = λ n. grows_same n c.args.table.now

pub returns-then-not-takes_sorts-clause-reads : goal.returns-then-not-takes_sorts-clause-reads
returns-then-not-takes_sorts-clause-reads c =
    let sorts_is = ap (map sort_in) c.deref-2.ensures.value ∙ c.in_ok-sorts.ensures
    ∙ ap (λ is. map sort_of (terms_at c.args.table.now is)) c.deref.ensures in
    unfit _ _ _ _
    (by_same is_count _ _ _ _ c.is_count.result c.is_count.ensures c.arity_of-arity.ensures
    (c.len.ensures.value ∙ as_many_terms c.args.table.now c.args.ids.items)
    ∙ c.if-not-is_count.false)
    (by_same takes_sorts _ _ _ _ c.takes_sorts.result c.takes_sorts.ensures c.arity_of-arity.ensures sorts_is
    ∙ c.if-not-takes_sorts.true)

pub returns-then-not-takes_sorts-clause-grows : goal.returns-then-not-takes_sorts-clause-grows
returns-then-not-takes_sorts-clause-grows c = λ n. grows_same n c.args.table.now

pub returns-then-is_left_out_use-clause-reads : goal.returns-then-is_left_out_use-clause-reads
returns-then-is_left_out_use-clause-reads c =
    let sorts_of_terms = c.in_ok-sorts.ensures
    ∙ ap (λ is. map sort_of (terms_at c.args.table.now is)) c.deref.ensures in
    left_out _ _ _ _
    (by_same is_count _ _ _ _ c.is_count.result c.is_count.ensures c.arity_of-arity.ensures
    (c.len.ensures.value ∙ as_many_terms c.args.table.now c.args.ids.items)
    ∙ c.if-not-is_count.false)
    (by_same takes_sorts _ _ _ _ c.takes_sorts.result c.takes_sorts.ensures c.arity_of-arity.ensures
    (ap (map sort_in) c.deref-2.ensures.value ∙ sorts_of_terms) ∙ c.if-not-takes_sorts.false)
    (by_same is_left_out_use _ _ _ _ c.is_left_out_use.result c.is_left_out_use.ensures c.arity_of-arity.ensures
    (ap (map sort_in) c.deref-else-not-takes_sorts.ensures.value ∙ sorts_of_terms) ∙ c.if-is_left_out_use.true)

pub returns-then-is_left_out_use-clause-grows : goal.returns-then-is_left_out_use-clause-grows
returns-then-is_left_out_use-clause-grows c = λ n. grows_same n c.args.table.now

pub returns-in_err-made-clause-reads : goal.returns-in_err-made-clause-reads
returns-in_err-made-clause-reads c =
    let p = err_from_is_err_and c.from_residual-in_err-made.result c.from_residual-in_err-made.ensures.1 in
    exits c.made.new.table _ c.from_residual-in_err-made.result NoMemory p.0 p.1 p.2 tt

pub returns-in_err-made-clause-grows : goal.returns-in_err-made-clause-grows
returns-in_err-made-clause-grows c = c.made.ensures.grows

pub returns-in_ok-made-clause-reads : goal.returns-in_ok-made-clause-reads
returns-in_ok-made-clause-reads c =
    let sorts_of_terms = c.in_ok-sorts.ensures
    ∙ ap (λ is. map sort_of (terms_at c.args.table.now is)) c.deref.ensures in (
      taken_in _ _ _ _ _
          (by_same is_count _ _ _ _ c.is_count.result c.is_count.ensures c.arity_of-arity.ensures
          (c.len.ensures.value ∙ as_many_terms c.args.table.now c.args.ids.items)
          ∙ c.if-not-is_count.false)
          (by_same takes_sorts _ _ _ _ c.takes_sorts.result c.takes_sorts.ensures c.arity_of-arity.ensures
          (ap (map sort_in) c.deref-2.ensures.value ∙ sorts_of_terms) ∙ c.if-not-takes_sorts.false)
          (by_same is_left_out_use _ _ _ _ c.is_left_out_use.result c.is_left_out_use.ensures c.arity_of-arity.ensures
          (ap (map sort_in) c.deref-else-not-takes_sorts.ensures.value ∙ sorts_of_terms) ∙ c.if-is_left_out_use.false)
          c.in_ok-made.ensures.value,
      c.in_ok-made.ensures.number,
    )

pub returns-in_ok-made-clause-grows : goal.returns-in_ok-made-clause-grows
returns-in_ok-made-clause-grows c = c.made.ensures.grows
