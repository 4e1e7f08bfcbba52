use Rattle.std.proofs.Common.{arith}
use Rattle.std.proofs.lemmas.Bool.{true≢false, false≢true}
use Rattle.sb_deriv.proofs.Derivatives.{faithful_kept}
use Rattle.sb_deriv.proofs.Waiting.{set_faithful, lacking_in, set_in, any_after, wanted_after, set_kept, length_in}
use Rattle.sb_deriv.proofs.deriver.Deriver.advance.Goals as goal

pub returns-in_err-derivative-clause-faithful : goal.returns-in_err-derivative-clause-faithful
returns-in_err-derivative-clause-faithful c =
    faithful_kept c.args.arena.now c.step.new.arena c.args.self.now c.in_err-derivative.ensures.extends
    c.requires.faithful

pub returns-in_err-insert-in-None-clause-faithful : goal.returns-in_err-insert-in-None-clause-faithful
returns-in_err-insert-in-None-clause-faithful c =
    faithful_kept c.args.arena.now c.step.new.arena c.args.self.now c.in_ok-derivative.ensures.extends
    c.requires.faithful

pub returns-in-Some-clause-faithful : goal.returns-in-Some-clause-faithful
returns-in-Some-clause-faithful c =
    set_faithful c.args.arena.now c.step.new.arena c.args.self.now _ c.args.id c.in-Some.derivative
    (set_in c.self.inside.memo.items c.args.self.now c.args.id c.number.result c.in-Some.derivative c.self.view_is
    c.number.ensures) c.requires.faithful c.in_ok-derivative.ensures.extends c.requires.known c.requires.room
    (rw (c.in-Some.is) at c.in_ok-derivative.ensures.found)

pub returns-in-Some-clause-added : goal.returns-in-Some-clause-added
returns-in-Some-clause-added c =
    λ t. lacking_in c.args.self.now _ c.args.id c.in-Some.derivative
    (set_in c.self.inside.memo.items c.args.self.now c.args.id c.number.result c.in-Some.derivative c.self.view_is
    c.number.ensures) c.requires.room c.requires.lacks

pub returns-in_ok-insert-in-None-clause-faithful : goal.returns-in_ok-insert-in-None-clause-faithful
returns-in_ok-insert-in-None-clause-faithful c =
    faithful_kept c.args.arena.now c.step.new.arena c.args.self.now c.in_ok-derivative.ensures.extends
    c.requires.faithful

pub returns-in_ok-insert-in-None-clause-waits : goal.returns-in_ok-insert-in-None-clause-waits
returns-in_ok-insert-in-None-clause-waits c =
    λ t. any_after c.args.id c.step.new.waiting.keys c.insert.new.self.keys c.in_ok-insert-in-None.ensures.keys
    (rw (c.in-None.is) at c.in_ok-derivative.ensures.waits)

pub returns-in_ok-insert-in-None-clause-wanted : goal.returns-in_ok-insert-in-None-clause-wanted
returns-in_ok-insert-in-None-clause-wanted c =
    λ n l h a. wanted_after c.args.self.now n c.args.id c.step.new.waiting.keys c.insert.new.self.keys
    c.in_ok-insert-in-None.ensures.keys l c.requires.lacks (c.in_ok-derivative.ensures.added n (omega (arith, l)) h)

pub returns-in-Some-clause-kept : goal.returns-in-Some-clause-kept
returns-in-Some-clause-kept c =
    set_kept c.args.self.now _ c.args.id c.in-Some.derivative
    (set_in c.self.inside.memo.items c.args.self.now c.args.id c.number.result c.in-Some.derivative c.self.view_is
    c.number.ensures) c.requires.lacks

pub returns-in-Some-clause-long : goal.returns-in-Some-clause-long
returns-in-Some-clause-long c =
    length_in c.args.self.now _ c.args.id c.in-Some.derivative
    (set_in c.self.inside.memo.items c.args.self.now c.args.id c.number.result c.in-Some.derivative c.self.view_is
    c.number.ensures)

pub returns-in-Some-clause-same : goal.returns-in-Some-clause-same
returns-in-Some-clause-same c = λ t. absurd (true≢false t)

pub returns-in-Some-clause-waits : goal.returns-in-Some-clause-waits
returns-in-Some-clause-waits c = λ t. absurd (true≢false t)

pub returns-in_ok-insert-in-None-clause-added : goal.returns-in_ok-insert-in-None-clause-added
returns-in_ok-insert-in-None-clause-added c = λ t. absurd (false≢true t)
