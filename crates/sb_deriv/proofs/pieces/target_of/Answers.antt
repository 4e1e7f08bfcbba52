use Rattle.std.proofs.Common.{subst, sym}
use Rattle.sb_deriv.proofs.Making.{made_more, made_stay}
use Rattle.sb_regex.proofs.CallerLemmas.{extends_same}
use Rattle.sb_regex.specs.Numbered.{AllNumbers}
use Rattle.sb_deriv.proofs.pieces.target_of.Goals as goal
use Rattle.sb_deriv.proofs.pieces.target_of.Goals.{then-len-lt-KEPT+in_ok-push, else-len-lt-KEPT}

pub returns-clause-known : goal.returns-clause-known
returns-clause-known c =
    elim c.if-len-lt-KEPT.branch [
      | then-len-lt-KEPT+in_ok-push w ↦
          rw (w.known-is) (made_more c.args.arena.now c.make.new.arena c.args.operation.now c.args.choices.now
          c.args.known.now.items w.push.new.self.items c.args.place c.in_ok-target.target
          c.in_ok-target.ensures.extends c.requires.operand c.requires.known w.in_ok-push.ensures.ok
          c.requires.within c.requires.members (rw (c.ids-ids.ensures) at c.in_ok-target.ensures.ok))
      | else-len-lt-KEPT w ↦
          rw (w.known-is) (made_stay c.args.arena.now c.make.new.arena c.args.operation.now c.args.choices.now
          c.args.known.now.items c.in_ok-target.ensures.extends c.requires.operand c.requires.known)
    ]

pub returns-in-Some-clause-known : goal.returns-in-Some-clause-known
returns-in-Some-clause-known c = c.requires.known

pub returns-in-Some-clause-extends : goal.returns-in-Some-clause-extends
returns-in-Some-clause-extends c = extends_same c.args.arena.now

pub returns-clause-extends : goal.returns-clause-extends
returns-clause-extends c = c.in_ok-target.ensures.extends

pub make-requires-clause-members : goal.make-requires-clause-members
make-requires-clause-members c = subst (AllNumbers c.args.arena.now) (sym c.ids-ids.ensures) c.requires.members
