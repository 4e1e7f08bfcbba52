use Rattle.std.proofs.Common.{◌≡◌, ◌≤◌, ◌-◌, List, get_or, ap, sym, ◌∙◌, length, false, None, arith}
use Rattle.std.proofs.lemmas.List.{get_or_read}
use Rattle.sb_trail.specs.declared.assigned.Assigned.{Assigned}
use Rattle.sb_analyze.specs.Shown.{shown}
use Rattle.sb_analyze.specs.Explaining.{traced}
use Rattle.sb_analyze.proofs.Walks.{trace_end, trace_skip, trace_step}
use Rattle.sb_analyze.proofs.analysis.Analysis.resolve_all.Goals as goal

-- what a read past the end of the trail gives
abbrev none : Assigned
none = record { literal = record { atom = 0; positive = false }; level = 0; reason = None }

pub overflow_sub-self : goal.overflow_sub-self
overflow_sub-self c =
    let within : c.loop-place.place ≤ length c.args.trail.now.literals =
    omega (arith, c.loop-place.auto.place, c.requires.end, ap length c.requires.whole) in
    let read : c.assigned-entry.result ≡ get_or c.args.trail.now.literals (c.loop-place.place - 1) none =
    c.assigned-entry.ensures
    ∙ get_or_read c.args.entries.now (c.loop-place.place - 1) c.index-entries-place.result
    (omega (arith, c.loop-place-test.true, within, ap length c.requires.whole)) c.index-entries-place.is none
    ∙ ap (λ (es : List Assigned). get_or es (c.loop-place.place - 1) none) c.requires.whole in
    (trace_step c.args.clauses.now c.args.trail.now c.requires.trail c.requires.reasoned c.loop-place.place none
    c.loop-place-test.true within 0 (shown c.args.self.now) (shown c.loop-place.self) c.loop-place.invariant
    (rw read at (sym c.is_pending.ensures ∙ c.if-is_pending.true)) (shown c.trace.new.self)
    (c.in_ok-trace.ensures
    ∙ ap (traced c.args.clauses.now c.args.trail.now.literals (shown c.loop-place.self)) read)).counted

pub loop-place-preserved-then-is_pending : goal.loop-place-preserved-then-is_pending
loop-place-preserved-then-is_pending c =
    let within : c.loop-place.place ≤ length c.args.trail.now.literals =
    omega (arith, c.loop-place.auto.place, c.requires.end, ap length c.requires.whole) in
    let read : c.assigned-entry.result ≡ get_or c.args.trail.now.literals (c.loop-place.place - 1) none =
    c.assigned-entry.ensures
    ∙ get_or_read c.args.entries.now (c.loop-place.place - 1) c.index-entries-place.result
    (omega (arith, c.loop-place-test.true, within, ap length c.requires.whole)) c.index-entries-place.is none
    ∙ ap (λ (es : List Assigned). get_or es (c.loop-place.place - 1) none) c.requires.whole in
    (trace_step c.args.clauses.now c.args.trail.now c.requires.trail c.requires.reasoned c.loop-place.place none
    c.loop-place-test.true within 0 (shown c.args.self.now) (shown c.loop-place.self) c.loop-place.invariant
    (rw read at (sym c.is_pending.ensures ∙ c.if-is_pending.true)) (shown c.trace.new.self)
    (c.in_ok-trace.ensures
    ∙ ap (traced c.args.clauses.now c.args.trail.now.literals (shown c.loop-place.self)) read)).traced

pub loop-place-preserved : goal.loop-place-preserved
loop-place-preserved c =
    let within : c.loop-place.place ≤ length c.args.trail.now.literals =
    omega (arith, c.loop-place.auto.place, c.requires.end, ap length c.requires.whole) in
    let read : c.assigned-entry.result ≡ get_or c.args.trail.now.literals (c.loop-place.place - 1) none =
    c.assigned-entry.ensures
    ∙ get_or_read c.args.entries.now (c.loop-place.place - 1) c.index-entries-place.result
    (omega (arith, c.loop-place-test.true, within, ap length c.requires.whole)) c.index-entries-place.is none
    ∙ ap (λ (es : List Assigned). get_or es (c.loop-place.place - 1) none) c.requires.whole in
    trace_skip c.args.clauses.now c.args.trail.now c.requires.trail c.requires.reasoned c.loop-place.place none
    c.loop-place-test.true within 0 (shown c.args.self.now) (shown c.loop-place.self) c.loop-place.invariant
    (rw read at (sym c.is_pending.ensures ∙ c.if-is_pending.false))

pub returns-then-self-eq0 : goal.returns-then-self-eq0
returns-then-self-eq0 c =
    trace_end c.args.clauses.now c.args.trail.now.literals _ (shown c.args.self.now) (shown c.loop-place.self)
    c.loop-place.invariant c.if-self-eq0.true
