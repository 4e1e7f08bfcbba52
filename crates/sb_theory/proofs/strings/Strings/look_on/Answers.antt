use Rattle.sb_theory.proofs.Words.{◌∙◌, Fine, Ok, ap, subst, sym, Bool, IsLook, spent_none}
use Rattle.sb_theory.proofs.Answering.{look_answered, look_failed}
use Rattle.sb_theory.proofs.Moving.{holds_moved, keeps_none, stands_looked}
use Rattle.sb_theory.proofs.Saying.{answers_decided, answers_judged}
use Rattle.sb_theory.proofs.Verdicts.{judged_empty}
use Rattle.sb_theory.specs.Walks.{Rows}
use Rattle.sb_theory.proofs.strings.Strings.look_on.Goals as goal

pub decide-requires : goal.decide-requires
decide-requires g c = c.requires.stands.holds

pub returns-in_err-answer : goal.returns-in_err-answer
returns-in_err-answer g c =
    let r = c.from_residual in look_failed r.result r.ensures.0 r.ensures.1 c.in_err-answer.ensures.keeps.grows

pub returns-then-not-last : goal.returns-then-not-last
returns-then-not-last g c =
    let d = c.in_ok-answer.ensures in
    let told = g.L.Tape.told c.args.tape.now in
    let faults = g.L.Tape.faults c.args.tape.now in
    let answer = c.in_ok-answer.answer in
    subst (λ (b : Bool). IsLook c.args.self.now c.decide.new.self c.args.trail.now.literals c.args.budget.now
    c.args.budget.now told told faults faults b (Ok answer))
    (sym c.if-not-last.true)
    (look_answered answer d.keeps.grows (spent_none c.args.budget.now)
    (answers_decided answer d.ok
    (stands_looked (holds_moved d.keeps d.rows d.noted c.requires.stands.holds)
    (ap (λ (r : Rows). r.entries) d.rows) c.requires.stands) d.keeps))

pub returns-then-len-eq0 : goal.returns-then-len-eq0
returns-then-len-eq0 g c =
    let x = c.args.self.now in
    let told = g.L.Tape.told c.args.tape.now in
    let faults = g.L.Tape.faults c.args.tape.now in
    let entries = c.args.trail.now.literals in
    let keeps = keeps_none c.requires.stands.holds in
    subst (λ (b : Bool). IsLook x x entries c.args.budget.now c.args.budget.now told told faults faults b (Ok Fine))
    (sym c.if-not-last.false)
    (look_answered Fine keeps.grows (spent_none c.args.budget.now)
    (answers_judged c.requires.stands c.requires.settled c.requires.whole
    (judged_empty x entries c.requires.stands.holds (sym (c.len.ensures ∙ x.joined.ok.0) ∙ c.if-len-eq0.true)) keeps))

pub judge-requires : goal.judge-requires
judge-requires g c =
    record { stands = c.requires.stands; whole = c.requires.whole; settled = c.requires.settled }

pub returns : goal.returns
returns g c =
    subst (λ (b : Bool). IsLook c.args.self.now c.judge.new.self c.args.trail.now.literals c.args.budget.now
    c.judge.new.budget (g.L.Tape.told c.args.tape.now) (g.L.Tape.told c.judge.new.tape)
    (g.L.Tape.faults c.args.tape.now) (g.L.Tape.faults c.judge.new.tape) b c.judge.result)
    (sym c.if-not-last.false) c.judge.ensures
