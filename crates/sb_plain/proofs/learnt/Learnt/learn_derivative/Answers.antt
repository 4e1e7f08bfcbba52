use Rattle.std.proofs.Common.{ap, refl, length}
use Rattle.std.proofs.lemmas.Result.{IfOk-from_err}
use Rattle.sb_regex.proofs.CallerLemmas.{number_kept}
use Rattle.sb_plain.specs.Memory.{points_of}
use Rattle.sb_plain.proofs.Remembering.{something, character, place_points, right_kept, targets_are, start_is, derivative_named, derivative_right, derivative_found, derivative_elsewhere}
use Rattle.sb_plain.proofs.learnt.Learnt.learn_derivative.Goals as goal

pub make-requires-clause-members : goal.make-requires-clause-members
make-requires-clause-members c =
    rw (c.requires.targets)
    (targets_are c.args.arena.now c.args.self.now c.args.c c.args.shape.now.parts.items
    (character c.args.c c.requires.character) c.requires.right c.requires.parts).0

pub returns-in_err-target : goal.returns-in_err-target
returns-in_err-target c =
    let x = c.from_residual in
    record {
      extends = c.in_err-target.ensures.extends;
      right = right_kept c.args.arena.now c.make.new.arena c.args.self.now c.in_err-target.ensures.extends
          c.requires.right;
      done = IfOk-from_err x.result _ x.ensures.0;
      long = refl;
      elsewhere = λ n a. refl;
    }

pub stretch-begin-requires : goal.stretch-begin-requires
stretch-begin-requires c =
    place_points c.args.arena.now c.args.self.now c.args.id c.requires.right c.requires.points

pub returns-in_err-insert-clause-right : goal.returns-in_err-insert-clause-right
returns-in_err-insert-clause-right c =
    rw (c.in_err-insert.ensures.err, c.self.view_is)
    (right_kept c.args.arena.now c.make.new.arena c.args.self.now c.in_ok-target.ensures.extends c.requires.right)

pub returns-clause-right : goal.returns-clause-right
returns-clause-right c =
    let h = character c.args.c c.requires.character in
    let p = something (points_of c.args.self.now c.args.id)
    (place_points c.args.arena.now c.args.self.now c.args.id c.requires.right c.requires.points) in
    derivative_right c.make.new.arena c.args.self.now _ c.args.id c.args.c c.stretch-begin.result
    c.in_ok-target.target p.0 p.1
    (start_is c.args.self.now c.args.id c.args.c c.stretch-begin.result p.0 c.stretch-begin.ensures p.1)
    (ap (λ x. x.0) c.self.view_is) (ap (λ x. x.1.0) c.self.view_is)
    (rw (ap (λ x. x.1.1) c.self.view_is) at c.in_ok-insert.ensures.updates.0) h
    (number_kept c.args.arena.now c.make.new.arena c.args.id c.in_ok-target.ensures.extends c.requires.known)
    (right_kept c.args.arena.now c.make.new.arena c.args.self.now c.in_ok-target.ensures.extends c.requires.right)
    (derivative_named c.args.arena.now c.make.new.arena c.args.self.now c.args.id c.args.c c.in_ok-target.target
    c.args.shape.now.operation c.args.shape.now.parts.items c.args.targets.now h c.requires.right c.requires.parts
    c.requires.shape c.in_ok-target.ensures.extends c.requires.known c.requires.targets
    c.in_ok-target.ensures.ok)

pub returns-clause-done : goal.returns-clause-done
returns-clause-done c =
    let p = something (points_of c.args.self.now c.args.id)
    (place_points c.args.arena.now c.args.self.now c.args.id c.requires.right c.requires.points) in
    derivative_found c.make.new.arena c.args.self.now _ c.args.id c.args.c c.stretch-begin.result
    c.in_ok-target.target p.0 p.1
    (start_is c.args.self.now c.args.id c.args.c c.stretch-begin.result p.0 c.stretch-begin.ensures p.1)
    (ap (λ x. x.0) c.self.view_is) (ap (λ x. x.1.0) c.self.view_is)
    (rw (ap (λ x. x.1.1) c.self.view_is) at c.in_ok-insert.ensures.updates.0)

pub returns-clause-elsewhere : goal.returns-clause-elsewhere
returns-clause-elsewhere c =
    let p = something (points_of c.args.self.now c.args.id)
    (place_points c.args.arena.now c.args.self.now c.args.id c.requires.right c.requires.points) in
    derivative_elsewhere c.make.new.arena c.args.self.now _ c.args.id c.args.c c.stretch-begin.result
    c.in_ok-target.target p.0 p.1
    (start_is c.args.self.now c.args.id c.args.c c.stretch-begin.result p.0 c.stretch-begin.ensures p.1)
    (ap (λ x. x.0) c.self.view_is) (ap (λ x. x.1.0) c.self.view_is)
    (rw (ap (λ x. x.1.1) c.self.view_is) at c.in_ok-insert.ensures.updates.0)

pub returns-in_err-insert-clause-extends : goal.returns-in_err-insert-clause-extends
returns-in_err-insert-clause-extends c = c.in_ok-target.ensures.extends

pub returns-clause-extends : goal.returns-clause-extends
returns-clause-extends c = c.in_ok-target.ensures.extends

pub returns-clause-long : goal.returns-clause-long
returns-clause-long c = ap (λ m. length m.1.0) c.self.view_is
