use Rattle.sb_session.proofs.Words.{[], ap, ◌∙◌, length, refl, sym, subst, IsFit, State, is_sorted_state, asked_in, beginning, proof_of, session_of, state_of}
use Rattle.sb_session.proofs.CheckLemmas.{is_kind, tracked_if}
use Rattle.sb_session.proofs.command.Session.new.Goals as goal

pub returns-clause-tracked : goal.returns-clause-tracked
returns-clause-tracked c =
    tracked_if (session_of c.new.result c.new-2.result (proof_of c.args.proved c.new-3.result)) c.args.proved
    c.new-3.result beginning refl (c.new-3.ensures.abreast c.new-2.result.store)

pub returns-clause-kind : goal.returns-clause-kind
returns-clause-kind c = is_kind c.args.proved c.new-3.result

pub invariant_of-result : goal.invariant_of-result
invariant_of-result c = λ goes. record {
  knows = c.new-2.ensures c.new.result c.new.ensures.words;
  regexes = c.new-3.ensures.regexes (length c.new-2.result.store.arena);
  levels = c.new-3.ensures.levels (asked_in (state_of c.new.result)).live;
  fit = subst IsFit (sym c.new.ensures.state) c.entries_lead_on.ensures.start;
  sorted = ap (λ (s : State). is_sorted_state s) c.new.ensures.state ∙ c.start_is_sorted.ensures [];
  declared = c.new-3.ensures.declared (state_of c.new.result).sorts;
  sound = c.new-3.ensures.sound (asked_in (state_of c.new.result)) c.new-2.result.store;
}
