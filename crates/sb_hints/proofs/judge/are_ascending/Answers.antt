use Rattle.std.proofs.Common.{◌&&◌, ◌+◌, Some, false, drop, get_or, ap, sym, ◌∙◌, arith}
use Rattle.std.proofs.lemmas.List.{drop_more, drop_all}
use Rattle.sb_lit.specs.declared.clause.Lit.{Lit}
use Rattle.sb_hints.proofs.Steps.{rises_all, rises_more, rises_end}
use Rattle.sb_hints.proofs.judge.are_ascending.Goals as goal

pub returns-then-not-rises : goal.returns-then-not-rises
returns-then-not-rises c =
    let d : Lit = record { atom = 0; positive = false } in
    let l = c.loop-literal in
    let ls = c.args.literals.now in
    let m = get_or ls l.literal-index d in
    let rest = drop (l.literal-index + 1) ls in
    ap (λ b. b && rises_all (Some m) rest) c.if-not-rises.ensures ∙ sym (rises_more l.before m rest)
    ∙ ap (rises_all l.before) (sym (drop_more ls l.literal-index d c.loop-literal-test.true)) ∙ l.invariant

pub loop-literal-preserved : goal.loop-literal-preserved
loop-literal-preserved c =
    let d : Lit = record { atom = 0; positive = false } in
    let l = c.loop-literal in
    let ls = c.args.literals.now in
    let m = get_or ls l.literal-index d in
    let rest = drop (l.literal-index + 1) ls in
    ap (λ b. b && rises_all (Some m) rest) c.if-not-rises.ensures ∙ sym (rises_more l.before m rest)
    ∙ ap (rises_all l.before) (sym (drop_more ls l.literal-index d c.loop-literal-test.true)) ∙ l.invariant

pub returns : goal.returns
returns c =
    let l = c.loop-literal in
    sym (rises_end l.before)
    ∙ ap (rises_all l.before) (sym (drop_all l.literal-index c.args.literals.now (omega (
      arith,
      c.loop-literal-test.false,
    ))))
    ∙ l.invariant
