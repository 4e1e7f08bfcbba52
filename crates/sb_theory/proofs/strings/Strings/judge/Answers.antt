use Rattle.sb_theory.proofs.Words.{◌∙◌, Option, ap, subst, Lit, spent_none}
use Rattle.sb_theory.proofs.Answering.{look_answered, look_behind, look_failed}
use Rattle.sb_theory.proofs.Moving.{grows_both, holds_moved, keeps_both, stands_looked}
use Rattle.sb_theory.proofs.Saying.{answers_judged}
use Rattle.sb_theory.specs.Judged.{AreJudged}
use Rattle.sb_theory.specs.Walks.{Rows}
use Rattle.sb_theory.proofs.strings.Strings.judge.Goals as goal

pub last_wrong-requires : goal.last_wrong-requires
last_wrong-requires g c = c.requires.stands.holds

pub returns-in_err-_wrong : goal.returns-in_err-_wrong
returns-in_err-_wrong g c =
    let r = c.from_residual in look_failed r.result r.ensures.0 r.ensures.1 c.in_err-_wrong.ensures.keeps.grows

pub returns-in_default : goal.returns-in_default
returns-in_default g c =
    let w = c.in_ok-_wrong.ensures in
    let entries = ap (λ (r : Rows). r.entries) w.rows in
    look_answered _ w.keeps.grows (spent_none c.args.budget.now)
    (answers_judged (stands_looked (holds_moved w.keeps w.rows w.noted c.requires.stands.holds) entries
    c.requires.stands)
    (ap (λ (r : Rows). r.changed) w.rows ∙ c.requires.settled) (entries ∙ c.requires.whole)
    (subst (λ (o : Option Lit). AreJudged c.last_wrong.new.self c.args.trail.now.literals o) c.in_default.is w.ok)
    w.keeps)

pub suggest-requires : goal.suggest-requires
suggest-requires g c =
    let w = c.in_ok-_wrong.ensures in holds_moved w.keeps w.rows w.noted c.requires.stands.holds

pub returns-in_err-suggest : goal.returns-in_err-suggest
returns-in_err-suggest g c =
    let r = c.from_residual-in_err-suggest in
    look_failed r.result r.ensures.0 r.ensures.1
    (grows_both c.in_ok-_wrong.ensures.keeps.grows c.in_err-suggest.ensures.keeps.grows)

pub clash_on-requires : goal.clash_on-requires
clash_on-requires g c = c.in_ok-suggest.ensures.holds

pub returns-in_err-found : goal.returns-in_err-found
returns-in_err-found g c =
    let r = c.from_residual-in_err-found in
    look_failed r.result r.ensures.0 r.ensures.1
    (grows_both (keeps_both c.in_ok-_wrong.ensures.keeps c.in_ok-suggest.ensures.keeps).grows
    c.in_err-found.ensures.keeps.grows)

pub refute-requires : goal.refute-requires
refute-requires g c =
    let found = c.in_ok-found.ensures.ok in
    let entries = found.entries ∙ c.in_ok-suggest.ensures.taken
    ∙ ap (λ (r : Rows). r.entries) c.in_ok-_wrong.ensures.rows in
    record {
      stands = stands_looked found.holds entries c.requires.stands;
      whole = entries ∙ c.requires.whole;
      settled = found.settled c.in-None.is;
    }

pub returns-in-None : goal.returns-in-None
returns-in-None g c =
    look_behind c.refute.result
    (keeps_both (keeps_both c.in_ok-_wrong.ensures.keeps c.in_ok-suggest.ensures.keeps) c.in_ok-found.ensures.keeps)
    c.refute.ensures

pub clash-requires : goal.clash-requires
clash-requires g c =
    let found = c.in_ok-found.ensures.ok in
    let entries = found.entries ∙ c.in_ok-suggest.ensures.taken
    ∙ ap (λ (r : Rows). r.entries) c.in_ok-_wrong.ensures.rows in
    record {
      stands = stands_looked found.holds entries c.requires.stands;
      whole = entries ∙ c.requires.whole;
      clash = found.clash c.in-Some-found.serial c.in-Some-found.is;
    }

pub returns-in-Some-found : goal.returns-in-Some-found
returns-in-Some-found g c =
    look_behind c.clash.result
    (keeps_both (keeps_both c.in_ok-_wrong.ensures.keeps c.in_ok-suggest.ensures.keeps) c.in_ok-found.ensures.keeps)
    c.clash.ensures
