use Rattle.std.proofs.Common.{◌∙◌, ap, map}
use Rattle.std.proofs.lemmas.List.{take_all}
use Rattle.sb_meaning.specs.Sorts.{sort_of}
use Rattle.sb_term.specs.Numbered.{terms_at}
use Rattle.sb_sorts.proofs.Applying.{sorts_more}
use Rattle.sb_sorts.proofs.apply.sorts_of.Goals as goal

pub loop-id-preserved : goal.loop-id-preserved
loop-id-preserved c =
    sorts_more c.args.table.now c.args.ids.now c.loop-id.id-index c.id-item.result c.loop-id.sorts.items
    c.push.new.self.items c.sort.result c.loop-id-test.true c.id-item.is c.sort.ensures c.in_ok-push.ensures.items
    c.loop-id.invariant

pub returns : goal.returns
returns c =
    c.loop-id.invariant
    ∙ ap (λ is. map sort_of (terms_at c.args.table.now is)) (take_all c.loop-id.id-index c.args.ids.now c.loop-id-test.false)
