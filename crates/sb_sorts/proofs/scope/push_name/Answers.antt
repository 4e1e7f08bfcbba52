use Rattle.sb_sorts.proofs.Kept.{insert_named}
use Rattle.sb_sorts.proofs.scope.push_name.Goals as goal

pub returns-in-Ok-clause-ok : goal.returns-in-Ok-clause-ok
returns-in-Ok-clause-ok c =
    insert_named c.args.names.now.entries c.insert.new.self.entries c.in_ok-key.key c.args.name.now c.args.named
    c.in_ok-key.ensures.items c.requires c.in-Ok.ensures.entries
