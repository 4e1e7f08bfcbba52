use Rattle.std.proofs.Common.{sym, ◌∙◌}
use Rattle.std.specs.HashSet.{contains}
use Rattle.sb_analyze.specs.Assumed.{are_equal}
use Rattle.sb_analyze.specs.Shown.{shown}
use Rattle.sb_analyze.proofs.Minimal.{implied_left_out, hints_more}
use Rattle.sb_analyze.proofs.analysis.Analysis.leave_out.Goals as goal

pub returns : goal.returns
returns c = λ level left h.
    rw (c.in_ok-push.ensures.items, hints_more c.args.self.now.reasons.items c.in-Some.reason)
    (implied_left_out c.args.clauses.now c.args.trail.now.literals c.requires.consistent level left (shown c.args.self.now)
    (contains are_equal c.args.standing.now) (contains are_equal c.take_out.new.standing) h c.args.literal
    c.in-Some.reason.0 (sym c.is_implied_by.ensures ∙ c.if-not-is_implied_by.false) c.take_out.ensures)
