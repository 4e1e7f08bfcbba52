use Rattle.sb_search.proofs.Words.{◌≡◌, ℕ, ◌∙◌, true, sym, ap, subst, List, IfOk-from_err, Kept, Assigned, Assignments, IsTrail, State, has_room_for, IsSearching}
use Rattle.sb_search.proofs.Known.{known_on}
use Rattle.sb_search.proofs.Turns.{searching_begun}
use Rattle.sb_search.proofs.Places.{more_room, more_places, widens_both}
use Rattle.sb_search.proofs.rounds.begin.Goals as goal

pub returns : goal.returns
returns g c =
    let is_trail = subst (λ (t : Assignments). IsTrail t) c.trail-trail.ensures c.literals-before.ensures.trail in
    let wanted = c.in_ok-place_wanted.ensures in
    let all = c.in_ok-place_all.ensures in
    let late = widens_both c.make_room.new.engine c.place_wanted.new.engine c.place_all.new.engine wanted.widens
    all.widens in
    let widens = widens_both c.backtrack.new.engine c.make_room.new.engine c.place_all.new.engine
    c.in_ok-make_room.ensures.widens late in
    let kept = widens.kept ∙ ap (λ (s : State). s.kept) c.backtrack.ensures.engine in
    let literals = widens.literals ∙ ap (λ (s : State). s.trail.literals) c.backtrack.ensures.engine in
    record {
      ready = record {
        searching = subst (λ (n : ℕ). IsSearching (g.T.Theory.wanted c.backtrack.new.theory) c.args.assumptions.now
            c.backtrack.new.stage.levels n c.place_all.new.engine) (sym c.backtrack.ensures.next)
            (searching_begun (g.T.Theory.wanted c.backtrack.new.theory) c.args.assumptions.now
            c.backtrack.new.stage.levels c.args.engine.now c.place_all.new.engine is_trail c.requires.reasoned kept
            literals
            (subst (λ (k : Kept). has_room_for c.place_all.new.engine.trail.reserved k ≡ true) (sym late.kept)
            (more_room c.make_room.new.engine.trail.reserved c.place_all.new.engine.trail.reserved
            c.make_room.new.engine.kept late.reserved c.in_ok-make_room.ensures.room))
            (more_places c.place_wanted.new.engine.trail.reserved c.place_all.new.engine.trail.reserved
            (g.T.Theory.wanted c.backtrack.new.theory) all.widens.reserved wanted.places)
            all.places);
        stands = subst (λ (es : List Assigned). g.T.Theory.stands c.backtrack.new.theory es) (sym literals)
            (c.backtrack.ensures.stands c.args.engine.now.trail.literals c.requires.stands);
        known = known_on (g.T.Theory.passes c.args.theory.now) (g.T.Theory.passes c.backtrack.new.theory)
            c.args.engine.now.kept c.place_all.new.engine.kept c.args.assumptions.now
            c.backtrack.ensures.back.stays.passes kept c.requires.passes;
      };
      kept = kept;
      back = c.backtrack.ensures.back;
    }

pub returns-in_err-make_room : goal.returns-in_err-make_room
returns-in_err-make_room g c = record {
  ready = IfOk-from_err c.from_residual.result _ c.from_residual.ensures.0;
  kept = IfOk-from_err c.from_residual.result _ c.from_residual.ensures.0;
  back = c.backtrack.ensures.back;
}

pub returns-in_err-place_wanted : goal.returns-in_err-place_wanted
returns-in_err-place_wanted g c =
    let r = c.from_residual-in_err-place_wanted in
    record {
      ready = IfOk-from_err r.result _ r.ensures.0;
      kept = IfOk-from_err r.result _ r.ensures.0;
      back = c.backtrack.ensures.back;
    }

pub returns-in_err-place_all : goal.returns-in_err-place_all
returns-in_err-place_all g c =
    let r = c.from_residual-in_err-place_all in
    record {
      ready = IfOk-from_err r.result _ r.ensures.0;
      kept = IfOk-from_err r.result _ r.ensures.0;
      back = c.backtrack.ensures.back;
    }
