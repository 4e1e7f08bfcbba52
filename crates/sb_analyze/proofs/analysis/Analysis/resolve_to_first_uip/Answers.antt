use Rattle.std.proofs.Common.{◌≡◌, ◌≤◌, ◌-◌, List, get_or, ap, sym, ◌∙◌, false, length, None, arith}
use Rattle.std.proofs.lemmas.List.{get_or_read}
use Rattle.sb_trail.specs.declared.assigned.Assigned.{Assigned}
use Rattle.sb_analyze.specs.Shown.{shown}
use Rattle.sb_analyze.proofs.Walks.{step_skip, step_resolve, step_last, step_decision}
use Rattle.sb_analyze.proofs.analysis.Analysis.resolve_to_first_uip.Goals as goal

-- what a read past the end of the trail gives
abbrev none : Assigned
none = record { literal = record { atom = 0; positive = false }; level = 0; reason = None }

pub loop-place-preserved-then-not-is_pending : goal.loop-place-preserved-then-not-is_pending
loop-place-preserved-then-not-is_pending c =
    let within : c.loop-place.place ≤ length c.args.trail.now.literals =
    omega (arith, c.loop-place.auto.place, ap length c.requires.whole) in
    let read : c.assigned-entry.result ≡ get_or c.args.trail.now.literals (c.loop-place.place - 1) none =
    c.assigned-entry.ensures
    ∙ get_or_read c.args.entries.now (c.loop-place.place - 1) c.index-entries-place.result
    (omega (arith, c.loop-place-test.true, within, ap length c.requires.whole)) c.index-entries-place.is none
    ∙ ap (λ (es : List Assigned). get_or es (c.loop-place.place - 1) none) c.requires.whole in
    step_skip c.args.clauses.now c.args.trail.now c.requires.trail c.requires.reasoned c.loop-place.place none
    c.loop-place-test.true within c.args.self.now.level (shown c.loop-place.self) c.loop-place.invariant
    (rw read at (sym c.is_pending.ensures ∙ c.if-not-is_pending.true))

pub returns-then-self-eq1 : goal.returns-then-self-eq1
returns-then-self-eq1 c =
    let within : c.loop-place.place ≤ length c.args.trail.now.literals =
    omega (arith, c.loop-place.auto.place, ap length c.requires.whole) in
    let read : c.assigned-entry.result ≡ get_or c.args.trail.now.literals (c.loop-place.place - 1) none =
    c.assigned-entry.ensures
    ∙ get_or_read c.args.entries.now (c.loop-place.place - 1) c.index-entries-place.result
    (omega (arith, c.loop-place-test.true, within, ap length c.requires.whole)) c.index-entries-place.is none
    ∙ ap (λ (es : List Assigned). get_or es (c.loop-place.place - 1) none) c.requires.whole in
    rw read (step_last c.args.clauses.now c.args.trail.now c.requires.trail c.requires.reasoned
    c.loop-place.place none c.loop-place-test.true within c.args.self.now.level (shown c.loop-place.self)
    c.loop-place.invariant
    (rw read at (sym c.is_pending.ensures ∙ c.if-not-is_pending.false)) c.if-self-eq1.true)

pub returns-in_default : goal.returns-in_default
returns-in_default c =
    let within : c.loop-place.place ≤ length c.args.trail.now.literals =
    omega (arith, c.loop-place.auto.place, ap length c.requires.whole) in
    let read : c.assigned-entry.result ≡ get_or c.args.trail.now.literals (c.loop-place.place - 1) none =
    c.assigned-entry.ensures
    ∙ get_or_read c.args.entries.now (c.loop-place.place - 1) c.index-entries-place.result
    (omega (arith, c.loop-place-test.true, within, ap length c.requires.whole)) c.index-entries-place.is none
    ∙ ap (λ (es : List Assigned). get_or es (c.loop-place.place - 1) none) c.requires.whole in
    rw read (step_decision c.args.clauses.now c.args.trail.now c.requires.trail c.requires.reasoned
    c.loop-place.place none c.loop-place-test.true within c.args.self.now.level (shown c.loop-place.self)
    c.loop-place.invariant
    (rw read at (sym c.is_pending.ensures ∙ c.if-not-is_pending.false))
    (rw read at c.in_default.is))

pub overflow_sub-self : goal.overflow_sub-self
overflow_sub-self c =
    let within : c.loop-place.place ≤ length c.args.trail.now.literals =
    omega (arith, c.loop-place.auto.place, ap length c.requires.whole) in
    let read : c.assigned-entry.result ≡ get_or c.args.trail.now.literals (c.loop-place.place - 1) none =
    c.assigned-entry.ensures
    ∙ get_or_read c.args.entries.now (c.loop-place.place - 1) c.index-entries-place.result
    (omega (arith, c.loop-place-test.true, within, ap length c.requires.whole)) c.index-entries-place.is none
    ∙ ap (λ (es : List Assigned). get_or es (c.loop-place.place - 1) none) c.requires.whole in
    let walked = step_resolve c.args.clauses.now c.args.trail.now c.requires.trail c.requires.reasoned
    c.loop-place.place none c.loop-place-test.true within c.args.self.now.level (shown c.loop-place.self)
    c.loop-place.invariant
    (rw read at (sym c.is_pending.ensures ∙ c.if-not-is_pending.false)) c.if-self-eq1.false c.in-Some.reason
    (rw read at c.in-Some.is) (shown c.resolve.new.self) c.in_ok-resolve.ensures in
    omega (arith, walked.more)

pub loop-place-preserved : goal.loop-place-preserved
loop-place-preserved c =
    let within : c.loop-place.place ≤ length c.args.trail.now.literals =
    omega (arith, c.loop-place.auto.place, ap length c.requires.whole) in
    let read : c.assigned-entry.result ≡ get_or c.args.trail.now.literals (c.loop-place.place - 1) none =
    c.assigned-entry.ensures
    ∙ get_or_read c.args.entries.now (c.loop-place.place - 1) c.index-entries-place.result
    (omega (arith, c.loop-place-test.true, within, ap length c.requires.whole)) c.index-entries-place.is none
    ∙ ap (λ (es : List Assigned). get_or es (c.loop-place.place - 1) none) c.requires.whole in
    step_resolve c.args.clauses.now c.args.trail.now c.requires.trail c.requires.reasoned c.loop-place.place none
    c.loop-place-test.true within c.args.self.now.level (shown c.loop-place.self) c.loop-place.invariant
    (rw read at (sym c.is_pending.ensures ∙ c.if-not-is_pending.false)) c.if-self-eq1.false c.in-Some.reason
    (rw read at c.in-Some.is) (shown c.resolve.new.self) c.in_ok-resolve.ensures
