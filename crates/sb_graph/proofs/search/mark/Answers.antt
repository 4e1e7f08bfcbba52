use Rattle.sb_graph.proofs.Steps.{mark_more, mark_all}
use Rattle.sb_graph.proofs.search.mark.Goals as goal

pub loop-regex-preserved : goal.loop-regex-preserved
loop-regex-preserved c =
    mark_more c.loop-regex.dead _ c.args.regexes.now c.loop-regex.regex-index c.regex-item.result c.number.result
    c.loop-regex-test.true c.regex-item.is c.number.ensures c.loop-regex.invariant

pub returns : goal.returns
returns c = mark_all c.loop-regex.dead _ c.args.regexes.now c.loop-regex.regex-index c.loop-regex-test.false
    c.loop-regex.invariant
