use Rattle.sb_stack.proofs.Definitions.{name_put}
use Rattle.sb_stack.proofs.parameter.put_name.Goals as goal

pub returns : goal.returns
returns c =
    name_put c.args.seen.now.keys c.insert.new.self.keys c.in_ok-key.key c.args.name.now c.in_ok-insert.field-0
    c.in_ok-key.ensures.items c.in_ok-insert.ensures.added c.in_ok-insert.ensures.keys
