use Rattle.sb_session.proofs.Words.{refl, inr, err_from_is_err_and, live_constants, state_of, verdict_in}
use Rattle.sb_session.proofs.CheckLemmas.{check_proved, check_cut, check_unwritten, held_found, never_spent}
use Rattle.sb_session.proofs.command.find_verdict.Goals as goal

pub find_unproved-requires : goal.find_unproved-requires
find_unproved-requires g c = record { held = c.requires.held; decided = c.requires.decided }

pub check-requires : goal.check-requires
check-requires g c =
    let h = c.requires.held in
    record {
      knows = h.knows;
      decided = c.requires.decided;
      fit = h.fit;
      sorted = c.live_are_well_sorted.ensures (state_of c.args.stack.now) h.sorted;
      regexes = h.regexes;
      declared = h.declared;
      sound = h.sound;
    }

pub returns-clause-held : goal.returns-clause-held
returns-clause-held g c =
    let e = c.in-Ok.ensures in
    let h = c.requires.held in
    held_found c.in-Ok.verdict c.args.stack.now c.check.new.stack c.check.new.decider c.check.new.self e.rest e.knows
    e.regexes (e.levels h.levels) h.fit h.sorted e.sound e.declared

pub returns-then-not-proved-clause-ok : goal.returns-then-not-proved-clause-ok
returns-then-not-proved-clause-ok g c = λ p tracked.
    check_unwritten c.args.stack.now c.find_unproved.new.decider c.args.prover.now c.find_unproved.new.prover
    (verdict_in (live_constants c.args.stack.now) c.in-Some.verdict) p c.args.proved
    (g.W.World.outside c.args.world.now) c.if-not-proved.true (rw c.in-Some.is at c.in_ok-verdict.ensures.finds)

pub returns-then-not-proved-clause-held : goal.returns-then-not-proved-clause-held
returns-then-not-proved-clause-held g c = rw c.in-Some.is at c.in_ok-verdict.ensures.held

pub returns-in_err-write_all-clause-spent : goal.returns-in_err-write_all-clause-spent
returns-in_err-write_all-clause-spent g c =
    let e = err_from_is_err_and c.from_residual-in_err-write_all.result c.from_residual-in_err-write_all.ensures.1 in
    rw e.1 (λ h. absurd (never_spent e.0 _ e.2 h))

pub returns-clause-ok : goal.returns-clause-ok
returns-clause-ok g c = λ p tracked.
    check_proved c.args.stack.now c.args.decider.now c.check.new.decider c.args.prover.now c.check.new.self
    (verdict_in (live_constants c.args.stack.now) c.in-Ok.verdict) p c.new-lines.result c.check.new.tape
    c.bytes.result.now (g.W.World.outside c.args.world.now) (g.W.World.outside c.write_all.new.world)
    c.new-lines.ensures c.bytes.ensures c.in-Ok.ensures.verdict (c.in-Ok.ensures.proves refl) c.args.proved
    c.if-not-proved.false c.in_ok-write_all.ensures.ok tracked

pub returns-in_err-write_all-clause-err : goal.returns-in_err-write_all-clause-err
returns-in_err-write_all-clause-err g c =
    let e = err_from_is_err_and c.from_residual-in_err-write_all.result c.from_residual-in_err-write_all.ensures.1 in
    rw e.1
    (λ p tracked.
    inr (check_cut c.args.stack.now c.args.decider.now c.check.new.decider c.args.prover.now c.check.new.self
    (verdict_in (live_constants c.args.stack.now) c.in-Ok.verdict) p c.new-lines.result c.check.new.tape
    c.bytes.result.now (g.W.World.outside c.args.world.now) (g.W.World.outside c.write_all.new.world)
    c.new-lines.ensures c.bytes.ensures c.in-Ok.ensures.verdict (c.in-Ok.ensures.proves refl) c.args.proved
    c.if-not-proved.false c.in_err-write_all.ensures.err tracked))

pub returns-then-not-proved-clause-store : goal.returns-then-not-proved-clause-store
returns-then-not-proved-clause-store g c = c.in_ok-verdict.ensures.store

pub returns-clause-store : goal.returns-clause-store
returns-clause-store g c = c.in-Ok.ensures.store
