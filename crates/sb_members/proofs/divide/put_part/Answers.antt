use Rattle.sb_members.proofs.Splits.{numbers_push, divided_pushed, whole_pushed}
use Rattle.sb_members.proofs.divide.put_part.Goals as goal

pub returns-then-divides-clause-divided : goal.returns-then-divides-clause-divided
returns-then-divides-clause-divided c = λ rs l h.
    numbers_push rs c.args.divided.now.items c.push.new.self.items c.args.part h l c.in_ok-push.ensures.items

pub returns-then-divides-clause-both : goal.returns-then-divides-clause-both
returns-then-divides-clause-both c = λ rs u.
    divided_pushed rs c.args.whole.now.items c.args.divided.now.items c.push.new.self.items c.args.part
    c.in_ok-push.ensures.items u

pub returns-clause-whole : goal.returns-clause-whole
returns-clause-whole c = λ rs l h.
    numbers_push rs c.args.whole.now.items c.push-2.new.self.items c.args.part h l c.in_ok-push-2.ensures.items

pub returns-clause-both : goal.returns-clause-both
returns-clause-both c = λ rs u.
    whole_pushed rs c.args.whole.now.items c.args.divided.now.items c.push-2.new.self.items c.args.part
    c.in_ok-push-2.ensures.items u
