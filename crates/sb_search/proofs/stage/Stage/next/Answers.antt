use Rattle.sb_search.proofs.Words.{◌≡◌, ◌≤◌, ◌<◌, ◌∙◌, true, sym, ap, subst, arith, Assignments, held, current_level, up_to, are_reserved, are_true, have_places}
use Rattle.sb_search.proofs.Truths.{all_true, true_up_to}
use Rattle.sb_search.proofs.stage.Stage.next.Goals as goal

pub returns-then-current_level-self-clause-next : goal.returns-then-current_level-self-clause-next
returns-then-current_level-self-clause-next g c =
    let same = c.trail-trail.ensures in
    let at : c.current_level.result ≡ current_level c.args.engine.now.trail.literals =
    c.current_level.ensures ∙ ap (λ (t : Assignments). current_level t.literals) same in
    let low : c.args.self.now.levels < current_level c.args.engine.now.trail.literals =
    omega (arith, c.if-current_level-self.true, at) in
    c.free.ensures c.args.assumptions.now c.args.self.now.levels c.args.engine.now (sym same)
    (subst (λ (t : Assignments). are_true (held t.literals) c.args.assumptions.now ≡ true) (sym same)
    (all_true (held (up_to c.args.self.now.levels c.args.engine.now.trail.literals))
    (held c.args.engine.now.trail.literals) c.args.assumptions.now
    (true_up_to c.args.self.now.levels c.args.engine.now.trail.literals) (c.requires.given low)))
    (subst (λ (t : Assignments). have_places t.reserved (g.T.Theory.wanted c.args.theory.now) ≡ true) (sym same)
    c.requires.places)

pub returns-in-Some-clause-next : goal.returns-in-Some-clause-next
returns-in-Some-clause-next g c =
    let same = c.trail-trail.ensures in
    let le : current_level c.trail-trail.result.now.literals ≤ c.args.self.now.levels =
    omega (arith, c.if-current_level-self.false, c.current_level.ensures) in
    c.given.ensures (g.T.Theory.wanted c.args.theory.now) c.args.assumptions.now c.args.self.now.levels
    c.args.engine.now (sym same) le c.in-Some.ensures.next.0
    (subst (λ (t : Assignments). are_reserved t.reserved c.args.assumptions.now ≡ true) (sym same)
    c.requires.assumption_places)

pub returns-in-None-clause-next : goal.returns-in-None-clause-next
returns-in-None-clause-next g c =
    let same = c.trail-trail.ensures in
    c.free-in-None.ensures c.args.assumptions.now c.args.self.now.levels c.args.engine.now (sym same)
    c.in-None.ensures.next
    (subst (λ (t : Assignments). have_places t.reserved (g.T.Theory.wanted c.args.theory.now) ≡ true) (sym same)
    c.requires.places)
