use Rattle.sb_session.proofs.Words.{◌≡◌, ◌+◌, ◌≤◌, ℕ, Bool, [], ◌++◌, length, take, drop, refl, ap, subst, ◌∙◌, arith, rules, Cut, Pause, Pauses, err_from_is_err_and, is_proved, on_err_weaker, opened}
use Rattle.sb_reader.specs.Feeding as feed
use Rattle.sb_session.specs.declared.solve.Pause.TheVariants.{Exited}
use Rattle.sb_session.proofs.CheckLemmas.{ok_map}
use Rattle.sb_session.proofs.EndLemmas.{exit_cut}
use Rattle.sb_session.proofs.ScriptLemmas.{underway_start, underway_cut, all_read, piece_front, piece_moved, longer, piece_cut, piece_exit, piece_on, stays_open, past_limit}
use Rattle.sb_session.proofs.solve.answer_script.Goals as goal

pub loop-count-init : goal.loop-count-init
loop-count-init g c = record {
  within = omega arith;
  goes_on = ap (λ (k : feed.Unanswered). k.1) c.requires.feed;
  session_goes_on = c.requires.goes_on;
  faults = refl;
  underway = λ asked old l k e. (
    [],
    refl,
    underway_start asked old (g.W.World.outside c.args.world.now) c.args.feed.now c.args.session.now e c.requires.feed
        c.requires.state c.requires.goes_on c.requires.tracked k,
  );
}

pub returns-in_err-read-clause-err : goal.returns-in_err-read-clause-err
returns-in_err-read-clause-err g c =
    let p = err_from_is_err_and c.from_residual.result c.from_residual.ensures.1 in
    rw p.1
    (λ asked old l k e.
    let way = c.loop-count.invariant.underway asked old l k e in
    underway_cut asked old way.0 c.loop-count.feed c.loop-count.session (g.W.World.outside c.loop-count.world)
    (g.W.World.outside c.read.new.self) way.2 c.in_err-read.ensures.err)

pub returns-clause-ok : goal.returns-clause-ok
returns-clause-ok g c asked old l k e =
    let way = c.loop-count.invariant.underway asked old l k e in
    past_limit asked old way.0 c.loop-count.feed c.loop-count.session (g.W.World.outside c.loop-count.world)
    (let h = way.1 in
    omega arith) way.2

pub returns-then-read-eq0-clause-ok : goal.returns-then-read-eq0-clause-ok
returns-then-read-eq0-clause-ok g c =
    ok_map c.answer_end.result
    (λ status run asked old l k e.
    let way = c.loop-count.invariant.underway asked old l k e in
    run asked old way.0
    (all_read asked old way.0 c.read.new.buffer c.in_ok-read.read c.loop-count.feed c.loop-count.session
    (g.W.World.outside c.loop-count.world) (g.W.World.outside c.read.new.self) c.if-read-eq0.true
    (let h = way.1 in omega arith) way.2 c.in_ok-read.ensures.moved c.in_ok-read.ensures.bytes))
    c.answer_end.ensures.ok

pub returns-then-read-eq0-clause-err : goal.returns-then-read-eq0-clause-err
returns-then-read-eq0-clause-err g c =
    on_err_weaker c.answer_end.result
    (λ cut asked old l k e.
    let way = c.loop-count.invariant.underway asked old l k e in
    cut asked old way.0
    (all_read asked old way.0 c.read.new.buffer c.in_ok-read.read c.loop-count.feed c.loop-count.session
    (g.W.World.outside c.loop-count.world) (g.W.World.outside c.read.new.self) c.if-read-eq0.true
    (let h = way.1 in omega arith) way.2 c.in_ok-read.ensures.moved c.in_ok-read.ensures.bytes))
    c.answer_end.ensures.err

pub returns-in_err-answer_piece-clause-err : goal.returns-in_err-answer_piece-clause-err
returns-in_err-answer_piece-clause-err g c =
    let p = err_from_is_err_and c.from_residual-in_err-answer_piece.result c.from_residual-in_err-answer_piece.ensures.1
    in
    let before = g.W.World.outside c.loop-count.world in
    let buffer = c.read.new.buffer in
    let rest = drop c.min-room.result c.loop-count.buffer in
    let count = c.in_ok-read.read in
    let fits : count ≤ length buffer = search rules in
    rw p.1
    (λ asked old l k e.
    let way = c.loop-count.invariant.underway asked old l k e in
    piece_cut asked old (way.0 ++ take count (buffer ++ rest)) (is_proved c.loop-count.session)
    (g.W.World.outside c.answer_piece.new.world) way.2.kind
    (piece_front asked old way.0 buffer rest count c.loop-count.feed c.loop-count.session before fits way.2
    c.in_ok-read.ensures.bytes)
    (c.in_err-answer_piece.ensures.err (opened asked old) way.0 before way.2.left.sofar
    (piece_moved asked old way.0 buffer rest count c.loop-count.feed c.loop-count.session before fits way.2
    c.in_ok-read.ensures.bytes (g.W.World.outside c.read.new.self) c.in_ok-read.ensures.moved)))

pub returns-in_err-finish-clause-err : goal.returns-in_err-finish-clause-err
returns-in_err-finish-clause-err g c =
    let p = err_from_is_err_and c.from_residual-in_err-finish.result c.from_residual-in_err-finish.ensures.1 in
    let before = g.W.World.outside c.loop-count.world in
    let now = g.W.World.outside c.answer_piece.new.world in
    let buffer = c.read.new.buffer in
    let rest = drop c.min-room.result c.loop-count.buffer in
    let count = c.in_ok-read.read in
    let fits : count ≤ length buffer = search rules in
    let exits : c.in_ok-answer_piece.field-0 ≡ Exited = search rules in
    rw p.1
    (λ asked old l k e.
    let way = c.loop-count.invariant.underway asked old l k e in
    let bytes = way.0 ++ take count (buffer ++ rest) in
    piece_cut asked old bytes (is_proved c.answer_piece.new.session) (g.W.World.outside c.finish.new.world)
    (c.in_ok-answer_piece.ensures.kind ∙ way.2.kind)
    (piece_front asked old way.0 buffer rest count c.loop-count.feed c.loop-count.session before fits way.2
    c.in_ok-read.ensures.bytes)
    (subst (λ (b : Bool). Cut (is_proved c.answer_piece.new.session) (opened asked old) bytes b
    (g.W.World.outside c.finish.new.world)) c.in_ok-answer_piece.ensures.finished
    (exit_cut (opened asked old) bytes c.answer_piece.new.feed.1 c.answer_piece.new.session now
    (g.W.World.outside c.finish.new.world)
    (subst (λ (pause : Pause). Pauses pause (opened asked old) bytes c.answer_piece.new.feed
    c.answer_piece.new.session now) exits
    (c.in_ok-answer_piece.ensures.ok (opened asked old) way.0 before way.2.left.sofar
    (piece_moved asked old way.0 buffer rest count c.loop-count.feed c.loop-count.session before fits way.2
    c.in_ok-read.ensures.bytes (g.W.World.outside c.read.new.self) c.in_ok-read.ensures.moved)))
    c.in_err-finish.ensures.err)))

pub returns-then-eq-clause-ok : goal.returns-then-eq-clause-ok
returns-then-eq-clause-ok g c asked old l k e =
    let before = g.W.World.outside c.loop-count.world in
    let now = g.W.World.outside c.answer_piece.new.world in
    let buffer = c.read.new.buffer in
    let rest = drop c.min-room.result c.loop-count.buffer in
    let count = c.in_ok-read.read in
    let fits : count ≤ length buffer = search rules in
    let exits : c.in_ok-answer_piece.field-0 ≡ Exited = search rules in
    let way = c.loop-count.invariant.underway asked old l k e in
    let room : count ≤ c.min-room.result = search rules in
    let limit : length way.0 + count ≤ asked.limit = let h = way.1 in omega arith in
    let e = longer asked old way.0 buffer rest count c.loop-count.feed c.loop-count.session before fits way.2
    c.in_ok-read.ensures.bytes in
    piece_exit asked old (way.0 ++ take count (buffer ++ rest)) c.answer_piece.new.feed c.answer_piece.new.session now
    (g.W.World.outside c.finish.new.world) c.in_ok-answer_piece.ensures.finished
    (c.in_ok-answer_piece.ensures.kind ∙ way.2.kind)
    (piece_front asked old way.0 buffer rest count c.loop-count.feed c.loop-count.session before fits way.2
    c.in_ok-read.ensures.bytes)
    (omega arith)
    (subst (λ (pause : Pause). Pauses pause (opened asked old) (way.0 ++ take count (buffer
    ++ rest)) c.answer_piece.new.feed
    c.answer_piece.new.session now) exits
    (c.in_ok-answer_piece.ensures.ok (opened asked old) way.0 before way.2.left.sofar
    (piece_moved asked old way.0 buffer rest count c.loop-count.feed c.loop-count.session before fits way.2
    c.in_ok-read.ensures.bytes (g.W.World.outside c.read.new.self) c.in_ok-read.ensures.moved)))
    c.in_ok-finish.ensures.ok

pub loop-count-preserved : goal.loop-count-preserved
loop-count-preserved g c =
    let before = g.W.World.outside c.loop-count.world in
    let now = g.W.World.outside c.answer_piece.new.world in
    let buffer = c.read.new.buffer in
    let rest = drop c.min-room.result c.loop-count.buffer in
    let count = c.in_ok-read.read in
    let fits : count ≤ length buffer = search rules in
    let ne : c.in_ok-answer_piece.field-0 ≡ Exited → ⊥ = λ e. let r = rw e at c.eq.ensures in cc in
    record {
      within = let room : count ≤ c.min-room.result = search rules in omega arith;
      goes_on = c.in_ok-answer_piece.ensures.finished;
      session_goes_on = stays_open c.in_ok-answer_piece.field-0 c.answer_piece.new.session ne
          c.in_ok-answer_piece.ensures.goes_on;
      faults = c.in_ok-answer_piece.ensures.faults ∙ c.in_ok-read.ensures.counts ∙ c.loop-count.invariant.faults;
      underway = λ asked old l k e.
          let way = c.loop-count.invariant.underway asked old l k e in
          let front = piece_front asked old way.0 buffer rest count c.loop-count.feed c.loop-count.session before fits
          way.2 c.in_ok-read.ensures.bytes in (
            way.0 ++ take count (buffer ++ rest),
            longer asked old way.0 buffer rest count c.loop-count.feed c.loop-count.session before fits way.2
                c.in_ok-read.ensures.bytes ∙ ap (λ (n : ℕ). n + count) way.1,
            piece_on c.in_ok-answer_piece.field-0 asked old
                (way.0 ++ take count (buffer ++ rest)) c.answer_piece.new.feed
                c.answer_piece.new.session now ne c.in_ok-answer_piece.ensures.finished
                (c.in_ok-answer_piece.ensures.kind ∙ way.2.kind) front
                (c.in_ok-answer_piece.ensures.ok (opened asked old) way.0 before way.2.left.sofar
                (piece_moved asked old way.0 buffer rest count c.loop-count.feed c.loop-count.session before fits way.2
                c.in_ok-read.ensures.bytes (g.W.World.outside c.read.new.self) c.in_ok-read.ensures.moved)),
          );
    }
