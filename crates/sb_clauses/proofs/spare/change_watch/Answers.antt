use Rattle.std.proofs.Common.{◌≡◌}
use Rattle.std.proofs.lemmas.List.{get_or_read}
use Rattle.sb_clauses.specs.Watching.{code_at}
use Rattle.sb_clauses.proofs.spare.change_watch.Goals as goal

pub returns-clause-spared : goal.returns-clause-spared
returns-clause-spared c =
    let read : c.index-old.result.now ≡ code_at c.args.own.now.watched.items c.args.number =
    get_or_read c.args.own.now.watched.items c.args.number c.index-old.result.now c.requires.number
    c.index-old.ensures 0 in
    λ kept spared inside among. c.keep_spare.ensures kept spared inside (λ clause has. rw read (among clause has))
