use Rattle.sb_session.proofs.Words.{sym, subst, HasSpent, Holds, IsVerdict, found, given_in, live_constants, state_of, verdict_in}
use Rattle.sb_stack.specs.declared.verdict.Verdict.{Verdict}
use Rattle.sb_session.proofs.CheckLemmas.{known_finds, held_found, some_weaker}
use Rattle.sb_session.proofs.command.find_unproved.Goals as goal

pub check-requires : goal.check-requires
check-requires c =
    let h = c.requires.held in
    record {
      knows = h.knows;
      decided = c.requires.decided;
      fit = h.fit;
      sorted = c.live_are_well_sorted.ensures (state_of c.args.stack.now) h.sorted;
      regexes = h.regexes;
      declared = h.declared;
      sound = h.sound;
    }

pub returns-clause-finds : goal.returns-clause-finds
returns-clause-finds c =
    some_weaker c.if_known.result _ _
    (λ v known.
    known_finds (state_of c.args.stack.now) (given_in c.args.stack.now) (live_constants c.args.stack.now) v known.1
    (subst (λ (w : Verdict). IsVerdict (state_of c.args.stack.now) (given_in c.args.stack.now)
    (verdict_in (live_constants c.args.stack.now) w)) (sym known.0) c.in-Ok.ensures.verdict))
    c.if_known.ensures.some

pub returns-clause-held : goal.returns-clause-held
returns-clause-held c =
    let e = c.in-Ok.ensures in
    let h = c.requires.held in
    some_weaker c.if_known.result _ _
    (λ v known.
    subst (λ (w : Verdict). Holds (found w c.check.new.stack) c.check.new.decider c.check.new.self) (sym known.0)
    (held_found c.in-Ok.verdict c.args.stack.now c.check.new.stack c.check.new.decider c.check.new.self e.rest e.knows
    e.regexes (e.levels h.levels) h.fit h.sorted e.sound e.declared))
    c.if_known.ensures.some

pub returns-clause-spent : goal.returns-clause-spent
returns-clause-spent c = λ none.
    subst (HasSpent c.check.new.budget) (c.if_known.ensures.none none) c.in-Ok.ensures.spent

pub returns-clause-store : goal.returns-clause-store
returns-clause-store c = c.in-Ok.ensures.store
