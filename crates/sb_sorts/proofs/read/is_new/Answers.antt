use Rattle.sb_sorts.proofs.Binds.{is_put, put_last}
use Rattle.sb_sorts.proofs.read.is_new.Goals as goal

pub returns : goal.returns
returns c =
    let r = c.in_ok-insert.field-0 in
    let is = c.in_ok-key.ensures.items in
    record {
      new = is_put c.args.seen.now.keys c.in_ok-key.key c.args.name.now r is c.in_ok-insert.ensures.added;
      put = put_last c.args.seen.now.keys c.in_ok-key.key c.args.name.now r is c.in_ok-insert.ensures.added
          c.insert.new.self.keys c.in_ok-insert.ensures.keys;
    }
