use Rattle.sb_decide.proofs.Words.{eqb-true, sym, take_all, ◌∙◌}
use Rattle.sb_decide.proofs.Occurring.{found_listed}
use Rattle.sb_decide.proofs.Parted.{parted_changed, parted_left, parted_none}
use Rattle.sb_decide.proofs.parting.part.Goals as goal

pub loop-serial-init : goal.loop-serial-init
loop-serial-init c =
    parted_none c.args.spoken.now.keys c.args.changed.now.items c.args.left.now.items c.requires.changed
    c.requires.left

pub loop-serial-preserved-then-contains : goal.loop-serial-preserved-then-contains
loop-serial-preserved-then-contains c =
    parted_left c.args.all.now c.args.spoken.now.keys c.loop-serial.changed.items c.loop-serial.left.items
    c.push.new.self.items c.loop-serial.serial-index _ c.loop-serial-test.true
    (found_listed _ _ (λ x h. sym (eqb-true _ x.0 h)) c.args.spoken.now.keys
    (sym c.contains.ensures ∙ c.if-contains.true)) c.in_ok-push.ensures.items c.loop-serial.invariant

pub loop-serial-preserved : goal.loop-serial-preserved
loop-serial-preserved c =
    parted_changed c.args.all.now c.args.spoken.now.keys c.loop-serial.changed.items c.loop-serial.left.items
    c.push-in-loop-serial.new.self.items c.loop-serial.serial-index _ c.loop-serial-test.true
    c.in_ok-push-2.ensures.items c.loop-serial.invariant

pub returns : goal.returns
returns c =
    rw (take_all c.loop-serial.serial-index c.args.all.now c.loop-serial-test.false) at c.loop-serial.invariant
