use Rattle.sb_plain.proofs.Failing.{failed_put}
use Rattle.sb_plain.proofs.failed.Failed.put.Goals as goal

pub returns-clause-right : goal.returns-clause-right
returns-clause-right c =
    failed_put c.self.inside.codes.items c.self.inside.pairs.keys c.insert.new.self.keys c.args.self.now c.args.regex
    c.args.place c.self.view_is _ c.in_ok-insert.ensures.keys
