use Rattle.std.proofs.Common.{Option, sym, subst}
use Rattle.std.specs.HashSet.{contains}
use Rattle.sb_lit.specs.declared.clause.ClauseId.{ClauseId}
use Rattle.sb_lit.specs.Clauses.{negation}
use Rattle.sb_analyze.specs.Assumed.{are_equal}
use Rattle.sb_analyze.specs.Cores.{IsFinal}
use Rattle.sb_analyze.proofs.Assumptions.{kept_core, no_kept_core, has_negated, both_core, never_both, no_both, false_or_reason, new_core}
use Rattle.sb_analyze.proofs.cores.final_core.Goals as goal

pub returns-in-Some : goal.returns-in-Some
returns-in-Some c = kept_core c.args.clauses.now c.args.assumptions.now c.in-Some.id.0
    (rw c.in-Some.is at c.in_ok-kept.ensures)

pub returns-in-Some-first_negated : goal.returns-in-Some-first_negated
returns-in-Some-first_negated c =
    let no_kept = no_kept_core c.args.clauses.now c.args.assumptions.now
    (rw c.in_default.is at c.in_ok-kept.ensures) in
    both_core c.args.clauses.now c.args.assumptions.now (λ l. contains are_equal c.in_ok-given.given (negation l))
    (has_negated c.args.assumptions.now (contains are_equal c.in_ok-given.given) c.in_ok-given.ensures) no_kept
    c.in-Some-first_negated.literal c.in-Some-first_negated.ensures

pub unreachable-requires : goal.unreachable-requires
unreachable-requires c =
    let both = subst (λ (o : Option ClauseId). IsFinal c.args.clauses.now c.args.trail.now.literals
    c.args.assumptions.now o) c.in_default-conflict.is c.requires.conflict in
    no_both c.args.clauses.now c.args.assumptions.now (λ l. contains are_equal c.in_ok-given.given (negation l))
    (has_negated c.args.assumptions.now (contains are_equal c.in_ok-given.given) c.in_ok-given.ensures)
    (sym c.in_default-first_negated.ensures) both

pub from_decisions-requires-clause-conflict : goal.from_decisions-requires-clause-conflict
from_decisions-requires-clause-conflict c =
    let final = subst (λ (o : Option ClauseId). IsFinal c.args.clauses.now c.args.trail.now.literals
    c.args.assumptions.now o) c.in-Some-conflict.is c.requires.conflict in
    false_or_reason c.args.clauses.now c.args.trail.now.literals c.args.assumptions.now c.in-Some-conflict.id final

pub returns : goal.returns
returns c =
    let final = subst (λ (o : Option ClauseId). IsFinal c.args.clauses.now c.args.trail.now.literals
    c.args.assumptions.now o) c.in-Some-conflict.is c.requires.conflict in
    let no_kept = no_kept_core c.args.clauses.now c.args.assumptions.now
    (rw c.in_default.is at c.in_ok-kept.ensures) in
    let apart = never_both c.args.clauses.now c.args.assumptions.now
    (λ l. contains are_equal c.in_ok-given.given (negation l))
    (has_negated c.args.assumptions.now (contains are_equal c.in_ok-given.given) c.in_ok-given.ensures)
    (sym c.in_default-first_negated.ensures) in
    new_core c.args.clauses.now c.args.trail.now.literals c.in_ok-lesson.ensures.trail c.requires.reasoned
    c.args.assumptions.now c.requires.decisions no_kept apart c.in-Some-conflict.id final c.in_ok-lesson.lesson
    c.in_ok-lesson.ensures
