use Rattle.std.proofs.Common.{subst, sym}
use Rattle.sb_stack.specs.Stacked.{Stacked, state_of}
use Rattle.sb_stack.specs.Steps.{entry_of, IsStep}
use Rattle.sb_script.specs.Replies.{step_of}
use Rattle.sb_check.specs.declared.entry.Entered.TheVariants as entered
use Rattle.sb_check.specs.Entering.{Enters}
use Rattle.sb_check.proofs.Entering.{entered_by, MovesBy, enters, stands, behind_left, stands_left}
use Rattle.sb_check.proofs.judge.Judge.enter.Goals as goal

pub returns-in-Answer-clause-ok : goal.returns-in-Answer-clause-ok
returns-in-Answer-clause-ok c =
    let old = state_of c.args.self.now.stack in
    let step = step_of (entry_of c.args.entry.now) old in
    subst (λ s. Enters (entered_by s) step old c.apply.new.self) c.in-Answer.is
    (enters step c.in_ok-apply.field-0 old c.apply.new.self c.in_ok-apply.ensures.ok c.in_ok-apply.ensures.given)

pub returns-in-Answer-clause-standing : goal.returns-in-Answer-clause-standing
returns-in-Answer-clause-standing c =
    stands c.args.self.now c.apply.new.self c.requires.standing c.in_ok-apply.ensures.extends
    (subst (λ s. MovesBy s c.args.self.now.stack c.apply.new.self) c.in-Answer.is
    c.in_ok-apply.ensures.grows) c.normals_stay.ensures c.models_stay.ensures

pub returns-in-Left-clause-ok : goal.returns-in-Left-clause-ok
returns-in-Left-clause-ok c =
    let old = state_of c.args.self.now.stack in
    let step = step_of (entry_of c.args.entry.now) old in
    subst (λ (t : Stacked). Enters entered.Left step old t) (sym c.leave.ensures.same.stack)
    (subst (λ s. Enters (entered_by s) step old c.apply.new.self) c.in-Left.is
    (enters step c.in_ok-apply.field-0 old c.apply.new.self c.in_ok-apply.ensures.ok c.in_ok-apply.ensures.given))

pub returns-in-Left-clause-kept : goal.returns-in-Left-clause-kept
returns-in-Left-clause-kept c =
    let old = state_of c.args.self.now.stack in
    let step = step_of (entry_of c.args.entry.now) old in
    behind_left step _ c.in-Left.level old (state_of c.apply.new.self) c.args.self.now c.leave.new.self
    (subst (λ s. IsStep step s old (state_of c.apply.new.self)) c.in-Left.is c.in_ok-apply.ensures.ok)
    c.leave.ensures.same.begun c.leave.ensures.same.next c.leave.ensures.kept

pub returns-in-Left-clause-standing : goal.returns-in-Left-clause-standing
returns-in-Left-clause-standing c =
    stands_left c.in-Left.level c.args.self.now c.leave.new.self c.apply.new.self c.leave.ensures.same.stack
    c.requires.standing c.in_ok-apply.ensures.extends
    (subst (λ s. MovesBy s c.args.self.now.stack c.apply.new.self) c.in-Left.is c.in_ok-apply.ensures.grows)
    c.normals_stay.ensures c.leave.ensures.same.begun c.leave.ensures.kept c.leave.ensures.over
    c.leave.ensures.models

pub returns-in-Check-clause-ok : goal.returns-in-Check-clause-ok
returns-in-Check-clause-ok c =
    let old = state_of c.args.self.now.stack in
    let step = step_of (entry_of c.args.entry.now) old in
    subst (λ s. Enters (entered_by s) step old c.apply.new.self) c.in-Check.is
    (enters step c.in_ok-apply.field-0 old c.apply.new.self c.in_ok-apply.ensures.ok c.in_ok-apply.ensures.given)

pub returns-in-Check-clause-standing : goal.returns-in-Check-clause-standing
returns-in-Check-clause-standing c =
    stands c.args.self.now c.apply.new.self c.requires.standing c.in_ok-apply.ensures.extends
    (subst (λ s. MovesBy s c.args.self.now.stack c.apply.new.self) c.in-Check.is
    c.in_ok-apply.ensures.grows) c.normals_stay.ensures c.models_stay.ensures

pub returns-clause-ok : goal.returns-clause-ok
returns-clause-ok c =
    let old = state_of c.args.self.now.stack in
    let step = step_of (entry_of c.args.entry.now) old in
    subst (λ s. Enters (entered_by s) step old c.apply.new.self) c.in-Exit.is
    (enters step c.in_ok-apply.field-0 old c.apply.new.self c.in_ok-apply.ensures.ok c.in_ok-apply.ensures.given)

pub returns-clause-standing : goal.returns-clause-standing
returns-clause-standing c =
    stands c.args.self.now c.apply.new.self c.requires.standing c.in_ok-apply.ensures.extends
    (subst (λ s. MovesBy s c.args.self.now.stack c.apply.new.self) c.in-Exit.is
    c.in_ok-apply.ensures.grows) c.normals_stay.ensures c.models_stay.ensures
