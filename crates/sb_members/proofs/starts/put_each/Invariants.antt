use Rattle.sb_members.proofs.Beginnings.{ArePut}
use Rattle.sb_members.proofs.starts.put_each.Given as goal

abbrev pub invariant-loop-regex : goal.invariant-loop-regex
invariant-loop-regex l = ArePut l.regexes l.fn.starts.keys l.starts.keys l.regex-index
