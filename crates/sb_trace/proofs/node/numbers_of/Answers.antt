use Rattle.std.proofs.Common.{map, sym, ap, ◌∙◌}
use Rattle.std.proofs.lemmas.List.{take_all}
use Rattle.sb_trace.specs.Tracking.{number_in}
use Rattle.sb_trace.proofs.Turns.{numbered_one}
use Rattle.sb_trace.proofs.node.numbers_of.Goals as goal

pub loop-regex-preserved : goal.loop-regex-preserved
loop-regex-preserved c =
    numbered_one (number_in c.args.order.now.keys) c.args.regexes.now c.loop-regex.numbers.items c.push.new.self.items
    c.loop-regex.regex-index c.regex-item.result c.number_of.result c.loop-regex-test.true c.regex-item.is
    c.number_of.ensures c.loop-regex.invariant c.in_ok-push.ensures.items

pub returns : goal.returns
returns c =
    sym (ap (map (number_in c.args.order.now.keys))
    (take_all c.loop-regex.regex-index c.args.regexes.now c.loop-regex-test.false))
    ∙ c.loop-regex.invariant
