use Rattle.sb_session.proofs.Words.{◌≡◌, ℕ, ◌<◌, List, length, take, refl, sym, ap, ◌∙◌, subst, inr, Holds, Stacked, asked_in, err_from_is_err_and, live_constants, proof_of, session_of, state_of, verdict_in, write_at}
use Rattle.sb_world.specs.declared.OutPort.TheVariants.{Answers}
use Rattle.sb_store.proofs.CallerLemmas.{more_both}
use Rattle.sb_session.proofs.CheckLemmas.{settled_of_rest, text_of_rest, tracked_stays, check_answered, answer_cut, proof_cut, never_spent}
use Rattle.sb_session.proofs.command.answer_check.Goals as goal

pub find_verdict-requires : goal.find_verdict-requires
find_verdict-requires g c =
    let s = c.args.stack.now in
    let old = c.args.decider.now.store in
    let new = c.decide.new.self.store in
    let e = c.in_ok-decided.ensures in
    let h = c.requires.held in
    record {
      held = record {
        knows = e.knows;
        regexes = c.regexes_stay_below.ensures old.arena new.arena c.args.prover.now.evidence.atoms e.store.more.extends
            h.regexes;
        levels = h.levels;
        fit = h.fit;
        sorted = h.sorted;
        declared = h.declared;
        sound = c.true_stays.ensures.grown (asked_in (state_of s)) s.table old new c.args.prover.now.evidence e.store
            h.regexes h.sound;
      };
      decided = e.decided;
    }

pub returns-in_err-verdict-clause-err : goal.returns-in_err-verdict-clause-err
returns-in_err-verdict-clause-err g c =
    let s = c.args.stack.now in
    let proof = proof_of c.args.proved c.args.prover.now in
    let session = session_of s c.args.decider.now proof in
    let between = session_of s c.decide.new.self proof in
    let x = c.from_residual-in_err-verdict in
    let p = err_from_is_err_and x.result x.ensures.1 in
    rw p.1
    (λ q tracked.
    proof_cut q session (g.W.World.outside c.args.world.now) (g.W.World.outside c.find_verdict.new.world)
    (c.in_err-verdict.ensures.err q
    (tracked_stays c.abreast_stays.ensures s.table session between q refl c.in_ok-decided.ensures.store tracked)))

pub returns-clause-ok : goal.returns-clause-ok
returns-clause-ok g c =
    let s = c.args.stack.now in
    let v = c.in_ok-verdict.verdict in
    let proof = proof_of c.args.proved c.args.prover.now in
    let after = proof_of c.args.proved c.find_verdict.new.prover in
    let session = session_of s c.args.decider.now proof in
    let between = session_of s c.decide.new.self proof in
    let mid = g.W.World.outside c.find_verdict.new.world in
    λ q tracked.
    check_answered q session (session_of s c.find_verdict.new.decider after)
    (session_of c.settle.new.self c.find_verdict.new.decider after) (verdict_in (live_constants s) v)
    (g.W.World.outside c.args.world.now) mid (g.W.World.outside c.write_all.new.world) (λ r h. h)
    (c.in_ok-verdict.ensures.ok q
    (tracked_stays c.abreast_stays.ensures s.table session between q refl c.in_ok-decided.ensures.store tracked))
    (c.settle.ensures.state ∙ settled_of_rest v s c.find_verdict.new.stack c.in_ok-verdict.ensures.rest)
    (c.in_ok-write_all.ensures.ok ∙ ap (λ (t : List ℕ). write_at Answers t mid)
    (c.settle.ensures.reply ∙ text_of_rest v s c.find_verdict.new.stack c.in_ok-verdict.ensures.rest))

pub returns-in_err-write_all-clause-err : goal.returns-in_err-write_all-clause-err
returns-in_err-write_all-clause-err g c =
    let s = c.args.stack.now in
    let v = c.in_ok-verdict.verdict in
    let proof = proof_of c.args.proved c.args.prover.now in
    let after = proof_of c.args.proved c.find_verdict.new.prover in
    let session = session_of s c.args.decider.now proof in
    let between = session_of s c.decide.new.self proof in
    let mid = g.W.World.outside c.find_verdict.new.world in
    let last = g.W.World.outside c.write_all.new.world in
    let x = c.from_residual-in_err-write_all in
    let p = err_from_is_err_and x.result x.ensures.1 in
    rw p.1
    (λ q tracked.
    inr (answer_cut q session (session_of s c.find_verdict.new.decider after)
    (session_of c.settle.new.self c.find_verdict.new.decider after) (verdict_in (live_constants s) v)
    (g.W.World.outside c.args.world.now) mid last
    (c.in_ok-verdict.ensures.ok q
    (tracked_stays c.abreast_stays.ensures s.table session between q refl c.in_ok-decided.ensures.store tracked))
    (subst (λ (t : List ℕ). (out : ℕ) × (out < length t) × (last ≡ write_at Answers (take out t) mid))
    (c.settle.ensures.reply ∙ text_of_rest v s c.find_verdict.new.stack c.in_ok-verdict.ensures.rest)
    c.in_err-write_all.ensures.err)))

pub returns-clause-held : goal.returns-clause-held
returns-clause-held g c =
    subst (λ (s : Stacked). Holds s c.find_verdict.new.decider c.find_verdict.new.prover) (sym c.settle.ensures.kept)
    c.in_ok-verdict.ensures.held

pub returns-in_err-verdict-clause-spent : goal.returns-in_err-verdict-clause-spent
returns-in_err-verdict-clause-spent g c =
    let x = c.from_residual-in_err-verdict in
    let p = err_from_is_err_and x.result x.ensures.1 in
    rw p.1 (λ h. c.in_err-verdict.ensures.spent (sym p.2 ∙ h))

pub returns-in_err-write_all-clause-spent : goal.returns-in_err-write_all-clause-spent
returns-in_err-write_all-clause-spent g c =
    let x = c.from_residual-in_err-write_all in
    let p = err_from_is_err_and x.result x.ensures.1 in
    rw p.1 (λ h. absurd (never_spent p.0 _ p.2 h))

pub returns-clause-store : goal.returns-clause-store
returns-clause-store g c =
    more_both c.args.decider.now.store c.decide.new.self.store c.find_verdict.new.decider.store
    c.in_ok-decided.ensures.store.more c.in_ok-verdict.ensures.store
