use Rattle.sb_graph.proofs.WalkSteps.{put_more, put_all}
use Rattle.sb_graph.proofs.queue.Queue.put_each.Goals as goal

pub loop-regex-preserved : goal.loop-regex-preserved
loop-regex-preserved c =
    put_more (c.args.before, c.args.character) c.loop-regex.self c.put.new.self _ c.args.regexes.now
    c.loop-regex.regex-index c.regex-item.result c.loop-regex-test.true c.regex-item.is c.in_ok-put.ensures
    c.loop-regex.invariant

pub returns : goal.returns
returns c = put_all (c.args.before, c.args.character) c.loop-regex.self _ c.args.regexes.now c.loop-regex.regex-index
    c.loop-regex-test.false c.loop-regex.invariant
