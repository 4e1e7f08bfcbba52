use Rattle.sb_problem.specs.Parts.{parts_in}
use Rattle.sb_problem.proofs.Takings.{not_new, is_new, put_part, taken_constant, taken_twice}
use Rattle.sb_problem.proofs.pieces.put_constant.Goals as goal

pub returns-then-not-is_new : goal.returns-then-not-is_new
returns-then-not-is_new c = λ whole left h.
    taken_twice whole c.args.serial.0 (parts_in c.args.parts.now.items) c.args.run.now.items c.args.met.now.keys left h
    (not_new c.args.met.now.keys c.args.serial.0 c.in_ok-is_new.is_new c.in_ok-is_new.ensures.added
    c.if-not-is_new.true)

pub returns : goal.returns
returns c = λ whole left h.
    taken_constant whole c.args.serial.0 (parts_in c.args.parts.now.items) (parts_in c.put_run.new.parts.items)
    (parts_in c.push.new.self.items) c.args.run.now.items c.put_run.new.run.items c.args.met.now.keys
    c.insert.new.self.keys left h
    (is_new c.args.met.now.keys c.args.serial.0 c.in_ok-is_new.is_new c.in_ok-is_new.ensures.added
    c.if-not-is_new.false)
    c.in_ok-is_new.ensures.keys c.in_ok-put_run.ensures.parts c.in_ok-put_run.ensures.run
    (put_part c.put_run.new.parts.items c.push.new.self.items _ c.in_ok-push.ensures.items)
