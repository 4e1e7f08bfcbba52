use Rattle.std.proofs.Common.{ap₂}
use Rattle.sb_lang.specs.Constructors.{mkcat}
use Rattle.sb_regex.proofs.CallerLemmas.{number_kept, names_at, names_below, at_kept}
use Rattle.sb_plain.proofs.shape.cat_with_rep.Goals as goal

pub cat-requires-clause-left : goal.cat-requires-clause-left
cat-requires-clause-left c =
    number_kept c.args.arena.now c.rep.new.self c.args.front c.in_ok-rest.ensures.extends c.requires.front

pub cat-requires-clause-right : goal.cat-requires-clause-right
cat-requires-clause-right c = names_below c.rep.new.self c.in_ok-rest.rest _ c.in_ok-rest.ensures.ok

pub returns-clause-ok : goal.returns-clause-ok
returns-clause-ok c =
    rw (ap₂ mkcat
    (at_kept c.args.arena.now c.rep.new.self c.args.front c.in_ok-rest.ensures.extends c.requires.front)
    (names_at c.rep.new.self c.in_ok-rest.rest _ c.in_ok-rest.ensures.ok)) at c.cat.ensures.ok
