use Rattle.sb_members.proofs.Beginnings.{put_start, put_next, put_done}
use Rattle.sb_members.proofs.starts.put_each.Goals as goal

pub loop-regex-init : goal.loop-regex-init
loop-regex-init c = put_start c.args.regexes.now c.args.starts.now.keys

pub loop-regex-preserved : goal.loop-regex-preserved
loop-regex-preserved c =
    put_next c.args.regexes.now c.args.starts.now.keys c.loop-regex.starts.keys c.insert.new.self.keys
    c.loop-regex.regex-index c.regex-item.result c.loop-regex-test.true c.regex-item.is c.in_ok-insert.ensures.keys
    c.loop-regex.invariant

pub returns : goal.returns
returns c = (
  c.loop-regex.invariant.goes_on,
  put_done c.args.regexes.now c.args.starts.now.keys c.loop-regex.starts.keys c.loop-regex.regex-index
      c.loop-regex-test.false c.loop-regex.invariant,
)
