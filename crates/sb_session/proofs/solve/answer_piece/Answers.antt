use Rattle.sb_session.proofs.Words.{◌++◌, subst, Cut, err_from_is_err_and, is_proved, on_err_weaker}
use Rattle.sb_reader.specs.Feeding as feed
use Rattle.sb_session.proofs.CheckLemmas.{ok_map}
use Rattle.sb_session.proofs.PieceLemmas.{push_on, push_cut}
use Rattle.sb_session.proofs.solve.answer_piece.Goals as goal

pub returns-in_err-push-clause-err : goal.returns-in_err-push-clause-err
returns-in_err-push-clause-err g c =
    let p = err_from_is_err_and c.from_residual.result c.from_residual.ensures.1 in
    rw p.1
    (λ opened bytes before sofar moved.
    push_cut opened bytes c.args.piece.now c.args.feed.now c.args.session.now before
    (g.W.World.outside c.args.world.now) c.requires.feed sofar moved)

pub returns-clause-ok : goal.returns-clause-ok
returns-clause-ok g c =
    let piece = c.args.piece.now in
    ok_map c.answer_entries.result
    (λ pause goes opened bytes before sofar moved.
    goes opened (bytes ++ piece)
    (push_on opened bytes piece c.args.feed.now c.push.new.self c.args.session.now before
    (g.W.World.outside c.args.world.now) c.in_ok-push.ensures.ok c.requires.feed sofar moved))
    c.answer_entries.ensures.ok

pub returns-clause-err : goal.returns-clause-err
returns-clause-err g c =
    let piece = c.args.piece.now in
    on_err_weaker c.answer_entries.result
    (λ cut opened bytes before sofar moved.
    subst (λ (k : feed.Unanswered). Cut (is_proved c.args.session.now) opened (bytes ++ piece) k.1
    (g.W.World.outside c.answer_entries.new.world)) c.in_ok-push.ensures.ok
    (cut opened (bytes ++ piece)
    (push_on opened bytes piece c.args.feed.now c.push.new.self c.args.session.now before
    (g.W.World.outside c.args.world.now) c.in_ok-push.ensures.ok c.requires.feed sofar moved)))
    c.answer_entries.ensures.err
