use Rattle.std.proofs.Common.{false, fold, get_or, ap, sym, ◌∙◌, arith}
use Rattle.std.specs.HashSet.{contains}
use Rattle.std.proofs.lemmas.List.{take_all}
use Rattle.std.proofs.lemmas.List.Sums.{fold_more}
use Rattle.sb_lit.specs.declared.clause.Lit.{Lit}
use Rattle.sb_lit.specs.Hints.{falsified}
use Rattle.sb_hints.specs.Listing.{are_equal}
use Rattle.sb_hints.specs.Following.{with_literal}
use Rattle.sb_hints.proofs.Steps.{from_false}
use Rattle.sb_hints.proofs.judge.finding_of.Goals as goal

pub loop-literal-preserved : goal.loop-literal-preserved
loop-literal-preserved c =
    let has = contains are_equal c.args.held.now in
    let d : Lit = record { atom = 0; positive = false } in
    let l = get_or c.args.clause.now c.loop-literal.literal-index d in
    c.with-found.ensures ∙ ap (λ f. with_literal has f l) c.loop-literal.invariant
    ∙ sym (fold_more (with_literal has) falsified c.args.clause.now c.loop-literal.literal-index d
    c.loop-literal-test.true)

pub returns : goal.returns
returns c = λ ls set.
    let has = contains are_equal c.args.held.now in
    c.loop-literal.invariant
    ∙ ap (fold (with_literal has) falsified)
    (take_all c.loop-literal.literal-index c.args.clause.now (omega (arith, c.loop-literal-test.false)))
    ∙ from_false ls has set c.args.clause.now
