use Rattle.std.proofs.Common.{◌∙◌, ap}
use Rattle.sb_analyze.specs.Shown.{shown}
use Rattle.sb_analyze.specs.Explaining.{Explanation, with_clause}
use Rattle.sb_analyze.proofs.Decisions.{begins_from, begins_traced, begins_passes}
use Rattle.sb_analyze.proofs.cores.from_decisions.Goals as goal

pub resolve_all-requires-clause-traced : goal.resolve_all-requires-clause-traced
resolve_all-requires-clause-traced c =
    let started = begins_from c.args.clauses.now c.args.trail.now c.literals-entries.ensures.trail c.requires.reasoned
    c.args.conflict c.requires.conflict (shown c.resolve.new.self)
    (c.in_ok-resolve.ensures
    ∙ ap (λ (s : Explanation). with_clause c.args.clauses.now c.args.trail.now.literals s c.args.conflict.0)
    c.new-analysis.ensures) in
    begins_traced c.args.clauses.now c.args.trail.now c.literals-entries.ensures.trail c.requires.reasoned
    c.args.conflict (shown c.resolve.new.self) started
    c.literals-entries.result.now c.literals-entries.ensures.value (shown c.keep_forced.new.self)
    c.in_ok-end.ensures.kept c.in_ok-end.end c.in_ok-end.ensures.end

pub returns : goal.returns
returns c =
    let started = begins_from c.args.clauses.now c.args.trail.now c.literals-entries.ensures.trail c.requires.reasoned
    c.args.conflict c.requires.conflict (shown c.resolve.new.self)
    (c.in_ok-resolve.ensures
    ∙ ap (λ (s : Explanation). with_clause c.args.clauses.now c.args.trail.now.literals s c.args.conflict.0)
    c.new-analysis.ensures) in
    let traced = c.in_ok-resolve_all.ensures in
    record {
      trail = c.literals-entries.ensures.trail.distinct;
      explanation = shown c.resolve_all.new.self;
      explained = traced.base.explained;
      distinct = traced.base.marked.distinct;
      named = traced.named.clause_named;
      made = c.lesson.ensures;
      decided = λ p decisions forced. traced.decided p
          (begins_passes c.args.clauses.now c.args.trail.now c.literals-entries.ensures.trail c.requires.reasoned
          c.args.conflict (shown c.resolve.new.self) started c.literals-entries.result.now
          c.literals-entries.ensures.value (shown c.keep_forced.new.self) c.in_ok-end.ensures.kept p forced)
          decisions;
    }
