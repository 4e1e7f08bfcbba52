use Rattle.sb_search.proofs.Words.{◌≤◌, refl, sym, ◌∙◌, ap, inr, arith, IfOk-from_err, Kept, moment, nothing, written}
use Rattle.sb_search.proofs.Steps.{stays_both, steps_written, faults_on, faults_stay}
use Rattle.sb_search.proofs.Ends.{turned_on, no_worse_on, better_on, unspent}
use Rattle.sb_search.proofs.rounds.run.Goals as goal

pub returns-in_err-begin : goal.returns-in_err-begin
returns-in_err-begin g c = record {
  turned = IfOk-from_err c.from_residual.result _ c.from_residual.ensures.0;
  stays = c.begin.ensures.back.stays;
  counts = faults_stay c.from_residual.result c.from_residual.ensures.1 refl;
}

pub steps-init : goal.steps-init
steps-init g c = (
  steps_written c.keeps_laws.ensures c.args.assumptions.now
      (moment c.args.theory.now c.args.engine.now c.args.budget.now (g.L.Tape.told c.args.tape.now))
      (moment c.begin.new.theory c.begin.new.engine c.args.budget.now (g.L.Tape.told c.args.tape.now))
      c.begin.ensures.back c.requires.passes
      (nothing (ap (λ (k : Kept). written k c.args.budget.now (g.L.Tape.told c.args.tape.now))
      c.in_ok-begin.ensures.kept)),
  c.in_ok-begin.ensures.ready,
  refl,
)

pub moves-init : goal.moves-init
moves-init g c = (c.steps.invariant.0, c.steps.invariant.1, c.steps.invariant.2, sym c.spent-start.ensures)

pub decisions-init : goal.decisions-init
decisions-init g c = (c.moves.invariant.0, c.moves.invariant.1, c.moves.invariant.2, inr (refl, omega arith))

pub returns-in_err-found : goal.returns-in_err-found
returns-in_err-found g c =
    let r = c.from_residual-in_err-found in
    record {
      turned = IfOk-from_err r.result _ r.ensures.0;
      stays = stays_both c.decisions.invariant.0.stays c.take_turn.ensures.stays;
      counts = faults_on r.result _ c.in_err-found.was r.ensures.1 c.decisions.invariant.2 c.take_turn.ensures.counts;
    }

pub returns-in-Ends : goal.returns-in-Ends
returns-in-Ends g c =
    let h = turned_on c.keeps_laws.ensures c.args.assumptions.now c.decisions.invariant.0 c.in_ok-found.ensures.turned
    c.in-Ends.is in
    record {
      turned = record { steps = h.0; goes_on = h.1 };
      stays = h.0.stays;
      counts = c.in_ok-found.ensures.counts ∙ c.decisions.invariant.2;
    }

pub decisions-preserved : goal.decisions-preserved
decisions-preserved g c =
    let h = turned_on c.keeps_laws.ensures c.args.assumptions.now c.decisions.invariant.0 c.in_ok-found.ensures.turned
    c.in-Decides.is in (
      h.0,
      h.1.0,
      c.in_ok-found.ensures.counts ∙ c.decisions.invariant.2,
      no_worse_on g.T.Theory (moment c.moves.theory c.moves.engine c.moves.budget (g.L.Tape.told c.moves.tape))
          (moment c.decisions.theory c.decisions.engine c.decisions.budget (g.L.Tape.told c.decisions.tape))
          (moment c.take_turn.new.theory c.take_turn.new.engine c.take_turn.new.budget
          (g.L.Tape.told c.take_turn.new.tape))
          c.in_ok-found.ensures.turned.steps.spends c.decisions.invariant.3 h.1.1,
    )

pub decisions-smaller : goal.decisions-smaller
decisions-smaller g c =
    (turned_on c.keeps_laws.ensures c.args.assumptions.now c.decisions.invariant.0 c.in_ok-found.ensures.turned
    c.in-Decides.is).1.2

pub moves-preserved : goal.moves-preserved
moves-preserved g c =
    let h = turned_on c.keeps_laws.ensures c.args.assumptions.now c.decisions.invariant.0 c.in_ok-found.ensures.turned
    c.in-Moves.is in
    let better = better_on g.T.Theory (moment c.moves.theory c.moves.engine c.moves.budget (g.L.Tape.told c.moves.tape))
    (moment c.decisions.theory c.decisions.engine c.decisions.budget (g.L.Tape.told c.decisions.tape))
    (moment c.take_turn.new.theory c.take_turn.new.engine c.take_turn.new.budget (g.L.Tape.told c.take_turn.new.tape))
    c.in_ok-found.ensures.turned.steps.spends c.decisions.invariant.3 h.1.1 in
    let level : c.take_turn.new.budget.spent ≤ c.moves.budget.spent =
    omega (arith, c.if-spent-start.false, c.spent.ensures, c.moves.invariant.3) in (
      h.0,
      h.1.0,
      c.in_ok-found.ensures.counts ∙ c.decisions.invariant.2,
      (unspent c.moves.budget c.take_turn.new.budget level better).0 ∙ c.moves.invariant.3,
    )

pub moves-smaller : goal.moves-smaller
moves-smaller g c =
    let h = turned_on c.keeps_laws.ensures c.args.assumptions.now c.decisions.invariant.0 c.in_ok-found.ensures.turned
    c.in-Moves.is in
    let better = better_on g.T.Theory (moment c.moves.theory c.moves.engine c.moves.budget (g.L.Tape.told c.moves.tape))
    (moment c.decisions.theory c.decisions.engine c.decisions.budget (g.L.Tape.told c.decisions.tape))
    (moment c.take_turn.new.theory c.take_turn.new.engine c.take_turn.new.budget (g.L.Tape.told c.take_turn.new.tape))
    c.in_ok-found.ensures.turned.steps.spends c.decisions.invariant.3 h.1.1 in
    let level : c.take_turn.new.budget.spent ≤ c.moves.budget.spent =
    omega (arith, c.if-spent-start.false, c.spent.ensures, c.moves.invariant.3) in
    (unspent c.moves.budget c.take_turn.new.budget level better).1

pub steps-preserved : goal.steps-preserved
steps-preserved g c =
    let h = turned_on c.keeps_laws.ensures c.args.assumptions.now c.decisions.invariant.0 c.in_ok-found.ensures.turned
    c.in-Moves.is in
    (h.0, h.1.0, c.in_ok-found.ensures.counts ∙ c.decisions.invariant.2)

pub steps-smaller : goal.steps-smaller
steps-smaller g c =
    let h = turned_on c.keeps_laws.ensures c.args.assumptions.now c.decisions.invariant.0 c.in_ok-found.ensures.turned
    c.in-Moves.is in
    let spent = c.steps.invariant.0.spends in
    omega (
      arith,
      c.if-spent-start.true,
      c.spent.ensures,
      c.spent-start.ensures,
      h.0.spends.limit,
      spent.limit,
      h.0.spends.within (omega (arith, c.if-spent-start.true, c.spent.ensures, c.spent-start.ensures, spent.spent)),
    )
