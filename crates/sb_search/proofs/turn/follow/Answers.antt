use Rattle.sb_search.proofs.Words.{◌≡◌, ℕ, true, List, Some, None, refl, sym, ◌∙◌, ap, subst, list_all, IfOk-from_err, Assigned, Assignments, IsTrail, held, State, decided, has_value, are_true}
use Rattle.sb_search.specs.declared.found.Found.TheVariants as found
use Rattle.sb_search.proofs.Steps.{stays_both, faults_on, faults_stay}
use Rattle.sb_search.proofs.Places.{given_free, next_free}
use Rattle.sb_search.proofs.Turns.{searching_placed}
use Rattle.sb_search.proofs.Ends.{answered_as, searching_asked, turn_ended, turn_taken, turn_granted, turn_decided}
use Rattle.sb_search.proofs.turn.follow.Goals as goal

pub returns-in_err-ask : goal.returns-in_err-ask
returns-in_err-ask g c = record {
  turned = IfOk-from_err c.from_residual.result _ c.from_residual.ensures.0;
  stays = c.ask.ensures.stays;
  counts = faults_on c.from_residual.result _ c.in_err-ask.was c.from_residual.ensures.1 refl c.ask.ensures.counts;
}

pub returns-in-Spent : goal.returns-in-Spent
returns-in-Spent g c = record {
  turned = turn_ended c.keeps_laws.ensures c.args.assumptions.now c.args.stage.now found.Spent
      (answered_as c.in_ok-ask.ensures.answered c.in-Spent.is) c.requires.ready refl
      (c.in_ok-ask.ensures.answered.spent c.in-Spent.is) (λ is. Prim.cc (is));
  stays = c.ask.ensures.stays;
  counts = c.in_ok-ask.ensures.counts;
}

pub returns-in_err-keep_at-in-Lemma : goal.returns-in_err-keep_at-in-Lemma
returns-in_err-keep_at-in-Lemma g c =
    let r = c.from_residual-in_err-keep_at-in-Lemma in
    record {
      turned = IfOk-from_err r.result _ r.ensures.0;
      stays = stays_both c.ask.ensures.stays c.keep_at.ensures.back.stays;
      counts = faults_stay r.result r.ensures.1 c.in_ok-ask.ensures.counts;
    }

pub returns-in_ok-keep_at-in-Lemma : goal.returns-in_ok-keep_at-in-Lemma
returns-in_ok-keep_at-in-Lemma g c =
    let is_trail = subst (λ (t : Assignments). IsTrail t) c.trail-trail.ensures c.literals-before.ensures.trail in
    record {
      turned = turn_taken c.keeps_laws.ensures c.args.assumptions.now c.keep_at.new.stage c.keep_at.new.theory c.keep_at.new.engine
          c.lowest_level-level.result (answered_as c.in_ok-ask.ensures.answered c.in-Lemma.is) c.requires.ready is_trail
          (rw (c.trail.ensures, c.literals.ensures) at c.lowest_level-level.ensures) c.keep_at.ensures.back
          c.in_ok-keep_at-in-Lemma.ensures.keeps;
      stays = stays_both c.ask.ensures.stays c.keep_at.ensures.back.stays;
      counts = c.in_ok-ask.ensures.counts;
    }

pub decide_assumption-requires : goal.decide_assumption-requires
decide_assumption-requires g c =
    let n = rw c.in-Assume.is at c.requires.next in
    record { reserved = n.3; unassigned = n.2; settled = c.requires.settled }

pub returns-in-Assume : goal.returns-in-Assume
returns-in-Assume g c =
    let h = answered_as c.in_ok-ask.ensures.answered c.in-Ask.is in
    let n = rw c.in-Assume.is at c.requires.next in
    record {
      turned = turn_decided c.keeps_laws.ensures c.args.assumptions.now c.decide_assumption.new.stage
          c.decide_assumption.new.engine c.in-Assume.assumption h c.requires.ready refl (λ none. (h.falls none).0)
          (c.decide_assumption.ensures.searching (g.T.Theory.wanted c.ask.new.theory) c.args.assumptions.now
          (searching_asked h c.requires.ready) n.1 n.0)
          c.decide_assumption.ensures.engine c.decide_assumption.ensures.within;
      stays = c.ask.ensures.stays;
      counts = c.in_ok-ask.ensures.counts;
    }

pub returns-in_err-make_place-in-Free : goal.returns-in_err-make_place-in-Free
returns-in_err-make_place-in-Free g c =
    let r = c.from_residual-in_err-make_place-in-Free in
    record {
      turned = IfOk-from_err r.result _ r.ensures.0;
      stays = c.ask.ensures.stays;
      counts = faults_stay r.result r.ensures.1 c.in_ok-ask.ensures.counts;
    }

pub decide_free-requires : goal.decide_free-requires
decide_free-requires g c =
    let h = answered_as c.in_ok-ask.ensures.answered c.in-Ask.is in
    let widens = c.in_ok-make_place-in-Free.ensures.widens in
    record {
      reserved = c.in_ok-make_place-in-Free.ensures.place;
      unassigned = rw widens.literals h.fair.0;
      settled = rw (widens.kept, widens.literals) c.requires.settled;
    }

pub returns-in_ok-make_place-in-Free : goal.returns-in_ok-make_place-in-Free
returns-in_ok-make_place-in-Free g c =
    let h = answered_as c.in_ok-ask.ensures.answered c.in-Ask.is in
    let widens = c.in_ok-make_place-in-Free.ensures.widens in
    record {
      turned = turn_granted c.keeps_laws.ensures c.args.assumptions.now c.decide_free.new.stage c.decide_free.new.engine h
          c.requires.ready
          (c.decide_free.ensures.searching (g.T.Theory.wanted c.ask.new.theory) c.args.assumptions.now
          (searching_placed (g.T.Theory.wanted c.ask.new.theory) c.args.assumptions.now c.args.stage.now.levels
          c.args.stage.now.next c.args.engine.now c.make_place.new.engine widens (searching_asked h c.requires.ready))
          (subst (λ (es : List Assigned). are_true (held es) c.args.assumptions.now ≡ true) (sym widens.literals)
          (given_free (g.T.Theory.wanted c.args.theory.now) c.args.assumptions.now c.args.stage.now.levels
          c.args.engine.now c.in-Free.field-0 (rw c.in-Free.is at c.requires.next))))
          (ap (λ (s : State). s.kept) c.decide_free.ensures.engine ∙ widens.kept)
          (ap (λ (s : State). s.trail.literals) c.decide_free.ensures.engine
          ∙ ap (λ (es : List Assigned). decided es c.in-Ask.literal) widens.literals);
      stays = c.ask.ensures.stays;
      counts = c.in_ok-ask.ensures.counts;
    }

pub decide_assumption-requires-in-Assume-next : goal.decide_assumption-requires-in-Assume-next
decide_assumption-requires-in-Assume-next g c =
    let n = rw c.in-Assume-next.is at c.requires.next in
    record { reserved = n.3; unassigned = n.2; settled = c.requires.settled }

pub returns-in-Assume-next : goal.returns-in-Assume-next
returns-in-Assume-next g c =
    let h = answered_as c.in_ok-ask.ensures.answered c.in-Fine.is in
    let n = rw c.in-Assume-next.is at c.requires.next in
    let decides = c.decide_assumption-in-Assume-next in
    record {
      turned = turn_decided c.keeps_laws.ensures c.args.assumptions.now decides.new.stage decides.new.engine
          c.in-Assume-next.assumption h c.requires.ready refl h.falls
          (decides.ensures.searching (g.T.Theory.wanted c.ask.new.theory) c.args.assumptions.now
          (searching_asked h c.requires.ready) n.1 n.0)
          decides.ensures.engine decides.ensures.within;
      stays = c.ask.ensures.stays;
      counts = c.in_ok-ask.ensures.counts;
    }

pub decide_free-requires-in-Some : goal.decide_free-requires-in-Some
decide_free-requires-in-Some g c =
    let n = next_free (g.T.Theory.wanted c.args.theory.now) c.args.assumptions.now c.args.stage.now.levels
    c.args.engine.now c.args.next c.in-Free-next.open (Some c.in-Some.atom) c.in-Free-next.is c.in-Some.is
    c.requires.next in
    record {
      reserved = rw c.literal-literal.ensures n.1;
      unassigned = rw c.literal-literal.ensures n.0;
      settled = c.requires.settled;
    }

pub returns-in-Some : goal.returns-in-Some
returns-in-Some g c =
    let h = answered_as c.in_ok-ask.ensures.answered c.in-Fine.is in
    let n = next_free (g.T.Theory.wanted c.args.theory.now) c.args.assumptions.now c.args.stage.now.levels
    c.args.engine.now c.args.next c.in-Free-next.open (Some c.in-Some.atom) c.in-Free-next.is c.in-Some.is
    c.requires.next in
    let decides = c.decide_free-in-Some in
    record {
      turned = turn_decided c.keeps_laws.ensures c.args.assumptions.now decides.new.stage decides.new.engine
          c.literal-literal.result h c.requires.ready refl h.falls
          (decides.ensures.searching (g.T.Theory.wanted c.ask.new.theory) c.args.assumptions.now
          (searching_asked h c.requires.ready) n.2)
          decides.ensures.engine decides.ensures.within;
      stays = c.ask.ensures.stays;
      counts = c.in_ok-ask.ensures.counts;
    }

pub returns-in-None : goal.returns-in-None
returns-in-None g c =
    let h = answered_as c.in_ok-ask.ensures.answered c.in-Fine.is in
    let n = next_free (g.T.Theory.wanted c.args.theory.now) c.args.assumptions.now c.args.stage.now.levels
    c.args.engine.now c.args.next c.in-Free-next.open None c.in-Free-next.is c.in-None.is
    c.requires.next in
    record {
      turned = turn_ended c.keeps_laws.ensures c.args.assumptions.now c.args.stage.now found.Sat h c.requires.ready refl
          (record {
            full = subst (λ (w : List ℕ). list_all (has_value c.args.engine.now.trail.literals) w ≡ true)
                (sym h.stays.wanted) n.0;
            none_false = c.requires.settled.none_false;
            assumed = n.1;
          })
          (λ _. h.agrees (c.is_last.ensures (rw (c.in-Free-next.is, c.in-None.is))) refl);
      stays = c.ask.ensures.stays;
      counts = c.in_ok-ask.ensures.counts;
    }
