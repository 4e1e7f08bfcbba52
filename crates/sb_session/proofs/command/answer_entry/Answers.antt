use Rattle.sb_session.proofs.Words.{[], ◌∷◌, true, false, refl, sym, ◌∙◌, arith, length, entry_of, err_from_is_err_and, leaving, proof_of, session_of, state_of, step_of, subst}
use Rattle.sb_stack.specs.declared.stack.Step.TheVariants as code
use Rattle.sb_store.proofs.CallerLemmas.{more_same}
use Rattle.sb_store.specs.Stores.{KnowsMore}
use Rattle.sb_session.proofs.CommandLemmas.{by_answer, by_exit, by_left, moved_by, whole_reply, whole_reply_by, cut_reply, check_replies, cut_check_reply}
use Rattle.sb_session.proofs.CheckLemmas.{never_spent}
use Rattle.sb_session.proofs.DeclaredLemmas.{declared_left, sorts_on}
use Rattle.sb_session.proofs.LeavingLemmas.{held_on, sorted_on, count_live, levels_left, regexes_left, tracked_left, sound_left}
use Rattle.sb_session.proofs.command.answer_entry.Goals as goal

pub returns-in_err-write_all-in-Answer-clause-err : goal.returns-in_err-write_all-in-Answer-clause-err
returns-in_err-write_all-in-Answer-clause-err g c =
    let x = c.from_residual-in_err-write_all-in-Answer in
    let p = err_from_is_err_and x.result x.ensures.1 in
    let entry = entry_of c.args.entry.now in
    let s = state_of c.args.stack.now in
    let after = state_of c.apply.new.self in
    let session = session_of c.args.stack.now c.args.decider.now (proof_of c.args.proved c.args.prover.now) in
    rw p.1
    (cut_reply entry false c.deref.result.now [] session after (g.W.World.outside c.args.world.now)
    (g.W.World.outside c.write_all.new.world)
    (by_answer (step_of entry s) c.in-Answer.text c.deref.result.now s after c.deref.ensures.value
    (rw c.in-Answer.is at c.in_ok-text.ensures.ok))
    c.in_err-write_all-in-Answer.ensures.err)

pub returns-in_ok-write_all-in-Answer-clause-ok : goal.returns-in_ok-write_all-in-Answer-clause-ok
returns-in_ok-write_all-in-Answer-clause-ok g c =
    let entry = entry_of c.args.entry.now in
    let s = state_of c.args.stack.now in
    let proof = proof_of c.args.proved c.args.prover.now in
    whole_reply entry false c.deref.result.now (session_of c.args.stack.now c.args.decider.now proof)
    (session_of c.apply.new.self c.args.decider.now proof) (g.W.World.outside c.args.world.now)
    (g.W.World.outside c.write_all.new.world) (λ p h. h)
    (by_answer (step_of entry s) c.in-Answer.text c.deref.result.now s (state_of c.apply.new.self) c.deref.ensures.value
    (rw c.in-Answer.is at c.in_ok-text.ensures.ok))
    c.in_ok-write_all-in-Answer.ensures.ok

pub returns-in_ok-write_all-in-Answer-clause-held : goal.returns-in_ok-write_all-in-Answer-clause-held
returns-in_ok-write_all-in-Answer-clause-held g c =
    let entry = entry_of c.args.entry.now in
    let s = c.args.stack.now in
    let t = c.apply.new.self in
    let e = c.apply.ensures in
    let is = rw c.in-Answer.is at c.in_ok-text.ensures.ok in
    held_on c.knows_stays.ensures c.levels_stay.ensures c.true_stays.ensures.goes_on s t c.args.decider.now
    c.args.prover.now e.extends
    (moved_by c.apply.result c.in_ok-text.field-0 (code.Answer c.in-Answer.text) _ _ c.in_ok-text.was c.in-Answer.is
    e.grows)
    e.words e.constants (c.entries_move_live.ensures entry (state_of s) (state_of t) _ is)
    (c.entries_stay_fit.ensures entry (state_of s) (state_of t) _ is c.requires.held.fit)
    (sorted_on c.entries_keep_sorts.ensures entry (state_of s) (state_of t) _ is c.requires.held.sorted)
    (sorts_on c.entries_lead_on.ensures.entries entry (state_of s) (state_of t) _ is c.requires.held.fit)
    c.requires.held

pub returns-in_err-write_all-in-Exit-clause-err : goal.returns-in_err-write_all-in-Exit-clause-err
returns-in_err-write_all-in-Exit-clause-err g c =
    let x = c.from_residual-in_err-write_all-in-Exit in
    let p = err_from_is_err_and x.result x.ensures.1 in
    let entry = entry_of c.args.entry.now in
    let s = state_of c.args.stack.now in
    let after = state_of c.apply.new.self in
    let session = session_of c.args.stack.now c.args.decider.now (proof_of c.args.proved c.args.prover.now) in
    rw p.1
    (cut_reply entry true c.deref-in-Exit.result.now [] session after (g.W.World.outside c.args.world.now)
    (g.W.World.outside c.write_all-in-Exit.new.world)
    (by_exit (step_of entry s) c.in-Exit.text c.deref-in-Exit.result.now s after c.deref-in-Exit.ensures.value
    (rw c.in-Exit.is at c.in_ok-text.ensures.ok))
    c.in_err-write_all-in-Exit.ensures.err)

pub returns-in_ok-write_all-in-Exit-clause-ok : goal.returns-in_ok-write_all-in-Exit-clause-ok
returns-in_ok-write_all-in-Exit-clause-ok g c =
    let entry = entry_of c.args.entry.now in
    let s = state_of c.args.stack.now in
    let proof = proof_of c.args.proved c.args.prover.now in
    whole_reply entry true c.deref-in-Exit.result.now (session_of c.args.stack.now c.args.decider.now proof)
    (session_of c.apply.new.self c.args.decider.now proof) (g.W.World.outside c.args.world.now)
    (g.W.World.outside c.write_all-in-Exit.new.world) (λ p h. h)
    (by_exit (step_of entry s) c.in-Exit.text c.deref-in-Exit.result.now s (state_of c.apply.new.self)
    c.deref-in-Exit.ensures.value (rw c.in-Exit.is at c.in_ok-text.ensures.ok))
    c.in_ok-write_all-in-Exit.ensures.ok

pub returns-in_ok-write_all-in-Exit-clause-held : goal.returns-in_ok-write_all-in-Exit-clause-held
returns-in_ok-write_all-in-Exit-clause-held g c =
    let entry = entry_of c.args.entry.now in
    let s = c.args.stack.now in
    let t = c.apply.new.self in
    let e = c.apply.ensures in
    let is = rw c.in-Exit.is at c.in_ok-text.ensures.ok in
    held_on c.knows_stays.ensures c.levels_stay.ensures c.true_stays.ensures.goes_on s t c.args.decider.now
    c.args.prover.now e.extends
    (moved_by c.apply.result c.in_ok-text.field-0 (code.Exit c.in-Exit.text) _ _ c.in_ok-text.was c.in-Exit.is e.grows)
    e.words e.constants (c.entries_move_live.ensures entry (state_of s) (state_of t) _ is)
    (c.entries_stay_fit.ensures entry (state_of s) (state_of t) _ is c.requires.held.fit)
    (sorted_on c.entries_keep_sorts.ensures entry (state_of s) (state_of t) _ is c.requires.held.sorted)
    (sorts_on c.entries_lead_on.ensures.entries entry (state_of s) (state_of t) _ is c.requires.held.fit)
    c.requires.held

-- A check.

pub answer_check-requires : goal.answer_check-requires
answer_check-requires g c =
    let entry = entry_of c.args.entry.now in
    let s = c.args.stack.now in
    let t = c.apply.new.self in
    let e = c.apply.ensures in
    let is = rw c.in-Check.is at c.in_ok-text.ensures.ok in
    record {
      held = held_on c.knows_stays.ensures c.levels_stay.ensures c.true_stays.ensures.goes_on s t c.args.decider.now
          c.args.prover.now e.extends
          (moved_by c.apply.result c.in_ok-text.field-0 code.Check _ _ c.in_ok-text.was c.in-Check.is e.grows)
          e.words e.constants (c.entries_move_live.ensures entry (state_of s) (state_of t) _ is)
          (c.entries_stay_fit.ensures entry (state_of s) (state_of t) _ is c.requires.held.fit)
          (sorted_on c.entries_keep_sorts.ensures entry (state_of s) (state_of t) _ is c.requires.held.sorted)
          (sorts_on c.entries_lead_on.ensures.entries entry (state_of s) (state_of t) _ is c.requires.held.fit)
          c.requires.held;
    }

pub returns-in_err-answer_check-in-Check-clause-err : goal.returns-in_err-answer_check-in-Check-clause-err
returns-in_err-answer_check-in-Check-clause-err g c =
    let x = c.from_residual-in_err-answer_check-in-Check in
    let p = err_from_is_err_and x.result x.ensures.1 in
    let proof = proof_of c.args.proved c.args.prover.now in
    rw p.1
    (cut_check_reply (entry_of c.args.entry.now) (session_of c.args.stack.now c.args.decider.now proof)
    (session_of c.apply.new.self c.args.decider.now proof) (g.W.World.outside c.args.world.now)
    (g.W.World.outside c.answer_check.new.world) (rw c.in-Check.is at c.in_ok-text.ensures.ok)
    (rw c.in-Check.is at c.in_ok-text.ensures.given) refl (λ p h. h)
    c.in_err-answer_check-in-Check.ensures.err)

pub returns-in_ok-answer_check-in-Check-clause-ok : goal.returns-in_ok-answer_check-in-Check-clause-ok
returns-in_ok-answer_check-in-Check-clause-ok g c =
    let proof = proof_of c.args.proved c.args.prover.now in
    check_replies (entry_of c.args.entry.now) (session_of c.args.stack.now c.args.decider.now proof)
    (session_of c.apply.new.self c.args.decider.now proof)
    (session_of c.answer_check.new.stack c.answer_check.new.decider (proof_of c.args.proved c.answer_check.new.prover))
    (g.W.World.outside c.args.world.now) (g.W.World.outside c.answer_check.new.world)
    (rw c.in-Check.is at c.in_ok-text.ensures.ok) (rw c.in-Check.is at c.in_ok-text.ensures.given) refl (λ p h. h)
    c.in_ok-answer_check-in-Check.ensures.ok

-- Where levels are left.

pub returns-in_err-write_all-in-Left-clause-err : goal.returns-in_err-write_all-in-Left-clause-err
returns-in_err-write_all-in-Left-clause-err g c =
    let x = c.from_residual-in_err-write_all-in-Left in
    let p = err_from_is_err_and x.result x.ensures.1 in
    let entry = entry_of c.args.entry.now in
    let s = state_of c.args.stack.now in
    let after = state_of c.apply.new.self in
    let session = session_of c.args.stack.now c.args.decider.now (proof_of c.args.proved c.args.prover.now) in
    rw p.1
    (cut_reply entry false c.deref-in-Left.result.now (leaving c.in-Left.level ∷ []) session after
    (g.W.World.outside c.args.world.now) (g.W.World.outside c.write_all-in-Left.new.world)
    (by_left (step_of entry s) c.in-Left.text c.in-Left.level c.deref-in-Left.result.now s after
    c.deref-in-Left.ensures.value (rw c.in-Left.is at c.in_ok-text.ensures.ok))
    c.in_err-write_all-in-Left.ensures.err)

pub returns-in_ok-write_all-in-Left-clause-ok : goal.returns-in_ok-write_all-in-Left-clause-ok
returns-in_ok-write_all-in-Left-clause-ok g c =
    let entry = entry_of c.args.entry.now in
    let s = state_of c.args.stack.now in
    let after = state_of c.apply.new.self in
    let level = c.in-Left.level in
    let session = session_of c.args.stack.now c.args.decider.now (proof_of c.args.proved c.args.prover.now) in
    let left = session_of c.apply.new.self c.leave.new.decider (proof_of c.args.proved c.leave.new.prover) in
    let is = rw c.in-Left.is at c.in_ok-text.ensures.ok in
    let moves = c.entries_move_live.ensures entry s after _ is in
    let e = c.in_ok-leave-in-Left.ensures in
    whole_reply_by entry false c.deref-in-Left.result.now (leaving level ∷ []) session left
    (g.W.World.outside c.args.world.now) (g.W.World.outside c.write_all-in-Left.new.world)
    (tracked_left level (length c.apply.new.self.assertions) session left c.args.proved c.args.prover.now
    c.leave.new.prover refl refl moves.0 moves.1 (count_live c.apply.new.self) e.store e.proof c.requires.held.levels)
    (by_left (step_of entry s) c.in-Left.text level c.deref-in-Left.result.now s after c.deref-in-Left.ensures.value is)
    c.in_ok-write_all-in-Left.ensures.ok

pub returns-in_ok-write_all-in-Left-clause-held : goal.returns-in_ok-write_all-in-Left-clause-held
returns-in_ok-write_all-in-Left-clause-held g c =
    let entry = entry_of c.args.entry.now in
    let s = c.args.stack.now in
    let t = c.apply.new.self in
    let e = c.apply.ensures in
    let h = c.requires.held in
    let left = c.in_ok-leave-in-Left.ensures in
    let level = c.in-Left.level in
    let is = rw c.in-Left.is at c.in_ok-text.ensures.ok in
    let moves = c.entries_move_live.ensures entry (state_of s) (state_of t) _ is in
    let fits = c.entries_stay_fit.ensures entry (state_of s) (state_of t) _ is h.fit in
    record {
      knows = left.knows s t e.extends
          (moved_by c.apply.result c.in_ok-text.field-0 (code.Left c.in-Left.text level) _ _ c.in_ok-text.was
          c.in-Left.is e.grows)
          (omega arith) e.words e.constants h.knows;
      regexes = regexes_left level (length t.assertions) c.args.decider.now.store c.leave.new.decider.store
          c.args.prover.now c.leave.new.prover left.store left.proof h.regexes;
      levels = levels_left level (length t.assertions) (state_of s) (state_of t) moves.0 moves.1 (count_live t)
          c.args.prover.now c.leave.new.prover left.proof h.levels;
      fit = fits.0;
      sorted = sorted_on c.entries_keep_sorts.ensures entry (state_of s) (state_of t) _ is h.sorted;
      declared = declared_left (state_of s) (state_of t) c.args.prover.now c.leave.new.prover
          (sorts_on c.entries_lead_on.ensures.entries entry (state_of s) (state_of t) _ is h.fit) left.proof.atoms
          h.declared;
      sound = sound_left level (length t.assertions) (state_of s) (state_of t) moves.0 moves.1 (count_live t)
          c.args.decider.now.store c.leave.new.decider.store c.args.prover.now c.leave.new.prover left.store left.proof
          fits.1 h.levels h.sound;
    }

-- No error of the outside is want of steps.

pub returns-in_err-write_all-in-Answer-clause-spent : goal.returns-in_err-write_all-in-Answer-clause-spent
returns-in_err-write_all-in-Answer-clause-spent g c =
    let x = c.from_residual-in_err-write_all-in-Answer in
    let p = err_from_is_err_and x.result x.ensures.1 in
    rw p.1 (λ h. absurd (never_spent p.0 _ p.2 h))

pub returns-in_err-write_all-in-Left-clause-spent : goal.returns-in_err-write_all-in-Left-clause-spent
returns-in_err-write_all-in-Left-clause-spent g c =
    let x = c.from_residual-in_err-write_all-in-Left in
    let p = err_from_is_err_and x.result x.ensures.1 in
    rw p.1 (λ h. absurd (never_spent p.0 _ p.2 h))

pub returns-in_err-write_all-in-Exit-clause-spent : goal.returns-in_err-write_all-in-Exit-clause-spent
returns-in_err-write_all-in-Exit-clause-spent g c =
    let x = c.from_residual-in_err-write_all-in-Exit in
    let p = err_from_is_err_and x.result x.ensures.1 in
    rw p.1 (λ h. absurd (never_spent p.0 _ p.2 h))

pub returns-in_err-answer_check-in-Check-clause-spent : goal.returns-in_err-answer_check-in-Check-clause-spent
returns-in_err-answer_check-in-Check-clause-spent g c =
    let x = c.from_residual-in_err-answer_check-in-Check in
    let p = err_from_is_err_and x.result x.ensures.1 in
    rw p.1 (λ h. c.in_err-answer_check-in-Check.ensures.spent (sym p.2 ∙ h))

-- What is known of regexes.

pub returns-in_ok-write_all-in-Answer-clause-store : goal.returns-in_ok-write_all-in-Answer-clause-store
returns-in_ok-write_all-in-Answer-clause-store g c = more_same c.args.decider.now.store

pub returns-in_ok-write_all-in-Exit-clause-store : goal.returns-in_ok-write_all-in-Exit-clause-store
returns-in_ok-write_all-in-Exit-clause-store g c = more_same c.args.decider.now.store

pub returns-in_ok-answer_check-in-Check-clause-store : goal.returns-in_ok-answer_check-in-Check-clause-store
returns-in_ok-answer_check-in-Check-clause-store g c = c.in_ok-answer_check-in-Check.ensures.store

pub returns-in_ok-write_all-in-Left-clause-store : goal.returns-in_ok-write_all-in-Left-clause-store
returns-in_ok-write_all-in-Left-clause-store g c =
    let old = c.args.decider.now.store in
    subst (KnowsMore old) (sym c.in_ok-leave-in-Left.ensures.store) (more_same old)
