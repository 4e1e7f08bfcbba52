use Rattle.std.proofs.Common.{ap, ◌∙◌, arith}
use Rattle.std.proofs.lemmas.Result.{IfOk-from_err}
use Rattle.sb_script.specs.Heads.{with_arguments}
use Rattle.sb_term.specs.Numbered.{term_at, terms_at}
use Rattle.sb_term.proofs.CallerLemmas.{at_kept, ats_kept, number_kept, numbers_kept}
use Rattle.sb_sorts.proofs.Remaking.{so_far_none, place_within, parts_next, so_far_more, so_far_all}
use Rattle.sb_sorts.proofs.Reading.{grows_same, grows_more}
use Rattle.sb_sorts.proofs.unfold.remake_all.Goals as goal

pub loop-place-init : goal.loop-place-init
loop-place-init c = (
  omega arith,
  so_far_none c.args.table.now (terms_at c.args.table.now c.args.given.now) c.args.made.now.entries c.args.ids.now
      c.requires.none,
  λ n. grows_same n c.args.table.now,
)

pub remade-requires : goal.remade-requires
remade-requires c =
    let ts = c.args.table.now in
    let us = c.loop-place.table in
    let is = c.args.ids.now in
    let i = c.index-ids-place.result in
    let extends = (c.loop-place.invariant.2 0).extends in record {
      id = number_kept ts us i extends (place_within ts is c.loop-place.place i c.requires.ids c.loop-place-test.true
          c.loop-place.invariant.0 c.index-ids-place.is);
      given = numbers_kept ts us c.args.given.now extends c.requires.given;
      parts = parts_next ts us c.args.given.now c.loop-place.made.entries is c.loop-place.place i c.requires.ids
          c.requires.given c.loop-place-test.true c.loop-place.invariant.0 c.index-ids-place.is extends
          c.loop-place.invariant.1;
    }

pub loop-place-preserved : goal.loop-place-preserved
loop-place-preserved c =
    let ts = c.args.table.now in
    let us = c.loop-place.table in
    let vs = c.remade.new.table in
    let given = c.args.given.now in
    let is = c.args.ids.now in
    let i = c.index-ids-place.result in
    let next = c.in_ok-next.next in
    let extends = (c.loop-place.invariant.2 0).extends in
    let within = place_within ts is c.loop-place.place i c.requires.ids c.loop-place-test.true
    c.loop-place.invariant.0 c.index-ids-place.is in
    let here = c.in_ok-next.ensures.value in (
      omega (arith, c.loop-place.invariant.0),
      so_far_more ts us vs (terms_at ts given) c.loop-place.made.entries c.insert.new.self.entries i next
          (c.remade.ensures.grows 0).extends c.in_ok-insert.ensures.updates.0 is c.loop-place.place c.requires.ids
          c.loop-place-test.true c.loop-place.invariant.0 c.index-ids-place.is (
            here.0,
            here.1 ∙ ap (λ gs. with_arguments gs (term_at us i)) (ats_kept ts us given extends c.requires.given)
                ∙ ap (with_arguments (terms_at ts given)) (at_kept ts us i extends within),
          )
          c.loop-place.invariant.1,
      λ n. grows_more n ts us vs (c.loop-place.invariant.2 n) (c.remade.ensures.grows n),
    )

pub returns-in_err-next : goal.returns-in_err-next
returns-in_err-next c = record {
  all = IfOk-from_err c.from_residual.result _ c.from_residual.ensures.0;
  grows = λ n. grows_more n c.args.table.now c.loop-place.table c.remade.new.table (c.loop-place.invariant.2 n)
      (c.remade.ensures.grows n);
}

pub returns-in_err-insert : goal.returns-in_err-insert
returns-in_err-insert c = record {
  all = IfOk-from_err c.from_residual-in_err-insert.result _ c.from_residual-in_err-insert.ensures.0;
  grows = λ n. grows_more n c.args.table.now c.loop-place.table c.remade.new.table (c.loop-place.invariant.2 n)
      (c.remade.ensures.grows n);
}

pub returns : goal.returns
returns c = record {
  all = so_far_all c.args.table.now c.loop-place.table (terms_at c.args.table.now c.args.given.now)
      c.loop-place.made.entries c.args.ids.now c.loop-place.place (omega (arith, c.loop-place-test.false))
      c.loop-place.invariant.1;
  grows = c.loop-place.invariant.2;
}
