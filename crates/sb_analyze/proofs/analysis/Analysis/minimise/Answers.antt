use Rattle.std.specs.HashSet.{contains}
use Rattle.sb_analyze.specs.Assumed.{are_equal}
use Rattle.sb_analyze.specs.Shown.{shown}
use Rattle.sb_analyze.proofs.Minimal.{minimising_start}
use Rattle.sb_analyze.proofs.analysis.Analysis.minimise.Goals as goal

pub loop-literal-init : goal.loop-literal-init
loop-literal-init c = λ level left uip.
    minimising_start c.args.clauses.now c.args.trail.now.literals level left (shown c.args.self.now)
    (contains are_equal c.in_ok-standing.standing) uip (rw (← c.deref.ensures.value) c.in_ok-standing.ensures)

pub loop-literal-preserved : goal.loop-literal-preserved
loop-literal-preserved c = λ level left uip.
    c.in_ok-leave_out.ensures level left (c.loop-literal.invariant level left uip)

pub returns : goal.returns
returns c = λ level left uip.
    rw (c.in_ok-self.ensures, c.deref-3.ensures.value) (c.loop-literal.invariant level left uip).uip
