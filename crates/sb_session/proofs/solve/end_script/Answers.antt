use Rattle.sb_session.proofs.Words.{◌≡◌, subst, rules, Pause, Pauses, err_from_is_err_and, opened, unfinished_line}
use Rattle.sb_world.specs.declared.OutPort.TheVariants.{Answers}
use Rattle.sb_reader.specs.declared.feed.Ending.TheVariants.{Unfinished}
use Rattle.sb_session.specs.declared.solve.Pause.TheVariants.{Ended}
use Rattle.sb_session.proofs.WritingLemmas.{one_cut}
use Rattle.sb_session.proofs.EndLemmas.{end_done, end_unfinished, end_cut_done, end_unfinished_cut, end_unfinished_proof_cut}
use Rattle.sb_session.proofs.solve.end_script.Goals as goal

pub returns-clause-ok : goal.returns-clause-ok
returns-clause-ok g c asked old bytes kept read ended kind pauses =
    end_done c.args.pause asked old bytes kept c.args.session.now (g.W.World.outside c.args.world.now)
    (g.W.World.outside c.finish-2.new.world) (λ e. let r = rw e at c.eq.ensures in cc) ended read kind pauses
    c.in_ok-finish-2.ensures.ok

pub returns-in_err-finish-2-clause-err : goal.returns-in_err-finish-2-clause-err
returns-in_err-finish-2-clause-err g c =
    let p = err_from_is_err_and c.from_residual-in_err-finish-2.result c.from_residual-in_err-finish-2.ensures.1 in
    rw p.1
    (λ asked old bytes kept read ended kind pauses.
    end_cut_done c.args.pause asked old bytes kept c.args.session.now (g.W.World.outside c.args.world.now)
    (g.W.World.outside c.finish-2.new.world) (λ e. let r = rw e at c.eq.ensures in cc) ended read kind pauses
    c.in_err-finish-2.ensures.err)

pub returns-then-eq-clause-ok : goal.returns-then-eq-clause-ok
returns-then-eq-clause-ok g c asked old bytes kept read ended kind pauses =
    let before = g.W.World.outside c.args.world.now in
    let e : c.args.pause ≡ Ended Unfinished = search rules in
    end_unfinished asked old bytes kept c.args.session.now before (g.W.World.outside c.write_all.new.world)
    (g.W.World.outside c.finish.new.world) read kind
    (subst (λ (pause : Pause). Pauses pause (opened asked old) bytes kept c.args.session.now before) e pauses)
    c.in_ok-write_all.ensures.ok c.in_ok-finish.ensures.ok

pub returns-in_err-write_all-clause-err : goal.returns-in_err-write_all-clause-err
returns-in_err-write_all-clause-err g c =
    let p = err_from_is_err_and c.from_residual.result c.from_residual.ensures.1 in
    let before = g.W.World.outside c.args.world.now in
    let e : c.args.pause ≡ Ended Unfinished = search rules in
    rw p.1
    (λ asked old bytes kept read ended kind pauses.
    end_unfinished_cut asked old bytes kept c.args.session.now before (g.W.World.outside c.write_all.new.world) read
    kind
    (subst (λ (pause : Pause). Pauses pause (opened asked old) bytes kept c.args.session.now before) e pauses)
    (one_cut Answers unfinished_line before (g.W.World.outside c.write_all.new.world)
    c.in_err-write_all.ensures.err))

pub returns-in_err-finish-clause-err : goal.returns-in_err-finish-clause-err
returns-in_err-finish-clause-err g c =
    let p = err_from_is_err_and c.from_residual-in_err-finish.result c.from_residual-in_err-finish.ensures.1 in
    let before = g.W.World.outside c.args.world.now in
    let e : c.args.pause ≡ Ended Unfinished = search rules in
    rw p.1
    (λ asked old bytes kept read ended kind pauses.
    end_unfinished_proof_cut asked old bytes kept c.args.session.now before (g.W.World.outside c.write_all.new.world)
    (g.W.World.outside c.finish.new.world) read kind
    (subst (λ (pause : Pause). Pauses pause (opened asked old) bytes kept c.args.session.now before) e pauses)
    c.in_ok-write_all.ensures.ok c.in_err-finish.ensures.err)
