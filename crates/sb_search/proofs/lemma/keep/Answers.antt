use Rattle.sb_search.proofs.Words.{◌≤◌, ◌∙◌, subst, ap, IfOk-from_err, State}
use Rattle.sb_search.proofs.lemma.keep.Goals as goal

pub returns-in_err-id : goal.returns-in_err-id
returns-in_err-id c = IfOk-from_err c.from_residual.result _ c.from_residual.ensures.0

pub returns-in_err-make_room : goal.returns-in_err-make_room
returns-in_err-make_room c =
    IfOk-from_err c.from_residual-in_err-make_room.result _ c.from_residual-in_err-make_room.ensures.0

pub returns : goal.returns
returns c =
    let widens = c.in_ok-make_room.ensures.widens in
    record {
      number = c.in_ok-id.ensures.number;
      kept = widens.kept ∙ ap (λ (s : State). s.kept) c.in_ok-id.ensures.ok;
      literals = widens.literals ∙ ap (λ (s : State). s.trail.literals) c.in_ok-id.ensures.ok;
      reserved = subst (λ (s : State). s.trail.reserved ≤ c.make_room.new.engine.trail.reserved) c.in_ok-id.ensures.ok
          widens.reserved;
      room = c.in_ok-make_room.ensures.room;
    }
