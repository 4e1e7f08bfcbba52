use Rattle.sb_session.proofs.Words.{◌∙◌, ap, subst, Cut, err_from_is_err_and, is_proved, on_err_weaker, opened}
use Rattle.sb_reader.specs.Feeding as feed
use Rattle.sb_session.proofs.CheckLemmas.{ok_map}
use Rattle.sb_session.proofs.EndLemmas.{end_sofar, end_cut}
use Rattle.sb_session.proofs.solve.answer_end.Goals as goal

pub returns-in_err-pause-clause-err : goal.returns-in_err-pause-clause-err
returns-in_err-pause-clause-err g c =
    let p = err_from_is_err_and c.from_residual.result c.from_residual.ensures.1 in
    let before = g.W.World.outside c.args.world.now in
    let now = g.W.World.outside c.answer_entries.new.world in
    rw p.1
    (λ asked old bytes read.
    end_cut asked old bytes (is_proved c.args.session.now) now read.is_read read.kind
    (subst (λ (k : feed.Unanswered). Cut (is_proved c.args.session.now) (opened asked old) bytes k.1 now)
    c.finish.ensures
    (c.in_err-pause.ensures.err (opened asked old) bytes
    (end_sofar asked old bytes c.args.feed.now c.finish.new.self c.args.session.now before c.finish.ensures read))))

pub returns-clause-ok : goal.returns-clause-ok
returns-clause-ok g c =
    let before = g.W.World.outside c.args.world.now in
    ok_map c.end_script.result
    (λ status run asked old bytes read.
    run asked old bytes c.answer_entries.new.feed read.is_read
    (c.answer_entries.ensures.finished ∙ ap (λ (k : feed.Unanswered). k.1) c.finish.ensures)
    (c.in_ok-pause.ensures.kind ∙ read.kind)
    (c.in_ok-pause.ensures.ok (opened asked old) bytes
    (end_sofar asked old bytes c.args.feed.now c.finish.new.self c.args.session.now before c.finish.ensures read)))
    c.end_script.ensures.ok

pub returns-clause-err : goal.returns-clause-err
returns-clause-err g c =
    let before = g.W.World.outside c.args.world.now in
    on_err_weaker c.end_script.result
    (λ run asked old bytes read.
    run asked old bytes c.answer_entries.new.feed read.is_read
    (c.answer_entries.ensures.finished ∙ ap (λ (k : feed.Unanswered). k.1) c.finish.ensures)
    (c.in_ok-pause.ensures.kind ∙ read.kind)
    (c.in_ok-pause.ensures.ok (opened asked old) bytes
    (end_sofar asked old bytes c.args.feed.now c.finish.new.self c.args.session.now before c.finish.ensures read)))
    c.end_script.ensures.err
