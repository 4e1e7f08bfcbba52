use Rattle.std.proofs.Common.{◌≡◌, refl, ◌∙◌, arith}
use Rattle.sb_trail.specs.Assignments.{held}
use Rattle.sb_clauses.specs.Watching.{literal_at}
use Rattle.sb_clauses.proofs.Growing.{literal_read}
use Rattle.sb_clauses.proofs.Waiting.{no_places, no_best, one_best}
use Rattle.std.proofs.lemmas.Grind.{common_steps}
use Rattle.sb_clauses.proofs.place.watched_literals.Goals as goal

pub returns-in_default-clause-watchable : goal.returns-in_default-clause-watchable
returns-in_default-clause-watchable c = no_places c.args.clause.now c.in_default.ensures

pub returns-in_default-clause-best : goal.returns-in_default-clause-best
returns-in_default-clause-best c = no_best (held c.args.trail.now.literals) c.args.clause.now c.in_default.ensures

pub returns-in-None-clause-best : goal.returns-in-None-clause-best
returns-in-None-clause-best c =
    let read : c.literal-own.result ≡ literal_at c.args.clause.now c.in-Some.first =
    c.literal-own.ensures
    ∙ literal_read c.args.clause.now c.args.clause.now c.in-Some.first c.index-clause-first.result refl
    c.in-Some.ensures.other.inside c.index-clause-first.is in
    rw read (one_best (held c.args.trail.now.literals) c.args.clause.now c.in-Some.first c.in-Some.ensures
    (rw read at c.in-None.ensures))

pub returns-in-None-clause-watchable : goal.returns-in-None-clause-watchable
returns-in-None-clause-watchable c = grind (arith, common_steps)

pub returns-in-Some-best_place-clause-watchable : goal.returns-in-Some-best_place-clause-watchable
returns-in-Some-best_place-clause-watchable c = grind (arith, common_steps)
