use Rattle.std.proofs.Common.{◌≡◌, ◌+◌, max, drop, get_or, ap, ◌∙◌, arith}
use Rattle.std.specs.Prelude.{unwrap_or}
use Rattle.std.proofs.lemmas.List.{drop_more, drop_all}
use Rattle.sb_lit.specs.Kept.{kept_at}
use Rattle.sb_lit.specs.Hints.{greatest_level}
use Rattle.sb_hints.specs.Following.{clause_at, clauses_at}
use Rattle.sb_hints.proofs.Steps.{level_of}
use Rattle.sb_hints.proofs.judge.greatest_level.Goals as goal

pub loop-id-preserved : goal.loop-id-preserved
loop-id-preserved c =
    let l = c.loop-id in
    let kept = c.args.kept.now in
    let ids = c.args.ids.now in
    let id = get_or ids l.id-index 0 in
    let level : c.unwrap_or.result ≡ (clause_at kept id).level =
    c.unwrap_or.ensures ∙ ap (λ o. unwrap_or o 0) c.level.ensures ∙ level_of (kept_at kept id) in
    let more : greatest_level (clauses_at kept (drop l.id-index ids))
    ≡ max (clause_at kept id).level (greatest_level (clauses_at kept (drop (l.id-index + 1) ids))) =
    ap (λ left. greatest_level (clauses_at kept left)) (drop_more ids l.id-index 0 c.loop-id-test.true) in
    omega (arith, l.invariant, level, more, c.max-greatest.ensures)

pub returns : goal.returns
returns c =
    let l = c.loop-id in
    let none = drop_all l.id-index c.args.ids.now (omega (arith, c.loop-id-test.false)) in
    omega (arith, l.invariant, ap (λ ids. greatest_level (clauses_at c.args.kept.now ids)) none)
