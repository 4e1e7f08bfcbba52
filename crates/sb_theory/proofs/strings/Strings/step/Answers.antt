use Rattle.sb_theory.proofs.Words.{◌∙◌, ◌≡◌, Ok, false≢true, subst, sym, true, ℕ, Answers, IsLook, Lemma, Spending, Spent, counts_on, err_from_is_err_and}
use Rattle.sb_theory.proofs.Answering.{answers_spent, answers_step, look_answered, look_stopped}
use Rattle.sb_theory.proofs.Moving.{keeps_none}
use Rattle.sb_theory.proofs.strings.Strings.step.Goals as goal

pub returns-then-not-tick : goal.returns-then-not-tick
returns-then-not-tick g c =
    let x = c.args.self.now in
    let told = g.L.Tape.told c.args.tape.now in
    let keeps = keeps_none c.requires.stands.holds in
    let same = c.tick.ensures.none c.if-not-tick.true in
    let spent = subst (λ (b : Spending). b.spent ≡ b.limit) same (c.tick.ensures.ticks.spent c.if-not-tick.true) in
    look_answered Spent keeps.grows c.tick.ensures.steps
    (subst (λ (b : Spending). Answers x x c.args.trail.now.literals c.args.budget.now b told told true Spent) (sym same)
    (answers_spent c.requires.stands spent keeps))

pub returns-then-not-self : goal.returns-then-not-self
returns-then-not-self g c =
    let told = g.L.Tape.told c.args.tape.now in
    let one = c.tick.ensures.one c.if-not-tick.false in
    look_answered _ (keeps_none c.requires.stands.holds).grows c.tick.ensures.steps
    (answers_step c.steps_hold.ensures c.steps_are_exact.ensures c.args.clause c.args.budget.now c.tick.new.budget told
    told c.requires.stands c.requires.step one.0 one.1 (λ on. absurd (false≢true (sym c.if-not-self.true ∙ on))))

pub returns-in_err-put_step : goal.returns-in_err-put_step
returns-in_err-put_step g c =
    let r = c.from_residual in
    let p = err_from_is_err_and r.result r.ensures.1 in
    look_stopped r.result r.ensures.0 (keeps_none c.requires.stands.holds).grows c.tick.ensures.steps
    (counts_on (Unit {0}) r.result p.0 _ _ _ p.1 p.2 c.in_err-put_step.ensures.counts)

pub returns : goal.returns
returns g c =
    let put = c.in_ok-put_step.ensures in
    let one = c.tick.ensures.one c.if-not-tick.false in
    let old = g.L.Tape.told c.args.tape.now in
    let new = g.L.Tape.told c.put_step.new.tape in
    subst (λ (n : ℕ). IsLook c.args.self.now c.args.self.now c.args.trail.now.literals c.args.budget.now
    c.tick.new.budget old new (g.L.Tape.faults c.args.tape.now) n true (Ok (Lemma c.args.clause))) (sym put.counts)
    (look_answered (Lemma c.args.clause) (keeps_none c.requires.stands.holds).grows c.tick.ensures.steps
    (answers_step c.steps_hold.ensures c.steps_are_exact.ensures c.args.clause c.args.budget.now c.tick.new.budget old
    new c.requires.stands c.requires.step one.0 one.1 (λ on. put.told)))
