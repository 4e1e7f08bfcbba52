use Rattle.std.specs.HashSet.{contains}
use Rattle.sb_hints.specs.Listing.{are_equal}
use Rattle.sb_hints.proofs.Steps.{open_forces, put_literal}
use Rattle.sb_hints.proofs.judge.follow_open.Goals as goal

pub returns-in_ok-insert-in-Forces : goal.returns-in_ok-insert-in-Forces
returns-in_ok-insert-in-Forces c = λ ls set.
    open_forces ls c.args.clause.now c.in-Forces.literal (contains are_equal c.insert.new.self)
    (λ m. put_literal (contains are_equal c.args.held.now) (contains are_equal c.insert.new.self) ls
    c.in-Forces.literal m
    set (c.in_ok-insert-in-Forces.ensures.updates.0 m)) (c.in-Forces.ensures ls set)
