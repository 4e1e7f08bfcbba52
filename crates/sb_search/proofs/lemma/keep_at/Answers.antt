use Rattle.sb_search.proofs.Words.{◌∙◌, ap, subst, List, [], ◌∷◌, ◌++◌, Some, sym, IfOk-from_err, Assigned, Assignments, IsTrail, State}
use Rattle.sb_search.proofs.Turns.{searching_after}
use Rattle.sb_search.proofs.lemma.keep_at.Goals as goal

pub returns : goal.returns
returns g c =
    let is_trail = subst (λ (t : Assignments). IsTrail t) c.trail-trail.ensures c.literals-before.ensures.trail in
    let back = c.backtrack.ensures in
    let literals = c.in_ok-keep.ensures.literals ∙ ap (λ (s : State). s.trail.literals) back.engine in
    record {
      keeps = record {
        kept = c.in_ok-keep.ensures.kept ∙ ap (λ (s : State).
            s.kept ++ Some (record { literals = c.args.clause.now; level = c.args.clause_level }) ∷ []) back.engine;
        literals = literals;
        stands = λ h.
            subst (λ (es : List Assigned). g.T.Theory.stands c.backtrack.new.theory es) (sym literals)
            (back.stands c.args.engine.now.trail.literals h);
        searching = λ assumptions h below.
            searching_after (g.T.Theory.wanted c.args.theory.now) (g.T.Theory.wanted c.backtrack.new.theory) assumptions
            c.args.stage.now.levels c.args.stage.now.next c.backtrack.new.stage.levels c.backtrack.new.stage.next
            c.args.level c.args.engine.now c.backtrack.new.engine c.keep.new.engine
            (record { literals = c.args.clause.now; level = c.args.clause_level }) c.in_ok-keep.field-0 is_trail
            back.engine back.back.stays.wanted back.levels back.next c.in_ok-keep.ensures h below;
      };
      back = back.back;
    }

pub returns-in_err-keep : goal.returns-in_err-keep
returns-in_err-keep g c = record {
  keeps = IfOk-from_err c.from_residual.result _ c.from_residual.ensures.0;
  back = c.backtrack.ensures.back;
}
