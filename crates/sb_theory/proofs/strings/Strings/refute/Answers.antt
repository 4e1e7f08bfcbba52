use Rattle.sb_theory.proofs.Words.{◌∙◌, Option, ap, arith, refl, subst, sym, Lit, counts_on, err_from_is_err_and, spent_both, spent_none}
use Rattle.sb_theory.proofs.Answering.{look_after, look_answered, look_behind, look_failed, look_stopped}
use Rattle.sb_theory.proofs.Moving.{grows_both, holds_moved, keeps_both, keeps_none, stands_looked}
use Rattle.sb_theory.proofs.Saying.{answers_judged, noted_of, said_of, unnoted_same}
use Rattle.sb_theory.proofs.Writing.{sofar_both, sofar_kept, sofar_none}
use Rattle.sb_theory.specs.Judged.{AreJudged}
use Rattle.sb_theory.specs.Walks.{Rows}
use Rattle.sb_theory.specs.declared.strings.walking.Walked.{Walked}
use Rattle.sb_theory.proofs.strings.Strings.refute.Goals as goal

pub loop-wrong-init : goal.loop-wrong-init
loop-wrong-init g c = record {
  stands = c.requires.stands;
  whole = c.requires.whole;
  settled = c.requires.settled;
  sofar = sofar_none c.args.budget.now (g.L.Tape.told c.args.tape.now) c.requires.stands;
  grows = (keeps_none c.requires.stands.holds).grows;
  steps = spent_none c.args.budget.now;
  faults = refl;
}

pub last_wrong-requires : goal.last_wrong-requires
last_wrong-requires g c = c.loop-wrong.invariant.stands.holds

pub returns-in_err-wrong : goal.returns-in_err-wrong
returns-in_err-wrong g c =
    let r = c.from_residual in
    let b = c.loop-wrong.invariant in
    look_after r.result b.grows b.steps b.faults b.sofar
    (look_failed r.result r.ensures.0 r.ensures.1 c.in_err-wrong.ensures.keeps.grows)

pub returns-in_default : goal.returns-in_default
returns-in_default g c =
    let b = c.loop-wrong.invariant in
    let w = c.in_ok-wrong.ensures in
    let entries = ap (λ (r : Rows). r.entries) w.rows in
    look_after _ b.grows b.steps b.faults b.sofar
    (look_answered _ w.keeps.grows (spent_none c.loop-wrong.budget)
    (answers_judged (stands_looked (holds_moved w.keeps w.rows w.noted b.stands.holds) entries b.stands)
    (ap (λ (r : Rows). r.changed) w.rows ∙ b.settled) (entries ∙ b.whole)
    (subst (λ (o : Option Lit). AreJudged c.last_wrong.new.self c.args.trail.now.literals o) c.in_default.is w.ok)
    w.keeps))

pub walk-requires : goal.walk-requires
walk-requires g c =
    let b = c.loop-wrong.invariant in
    let w = c.in_ok-wrong.ensures in
    let entries = ap (λ (r : Rows). r.entries) w.rows in
    record {
      stands = stands_looked (holds_moved w.keeps w.rows w.noted b.stands.holds) entries b.stands;
      whole = entries ∙ b.whole;
      settled = ap (λ (r : Rows). r.changed) w.rows ∙ b.settled;
      wrong = subst (λ (o : Option Lit). AreJudged c.last_wrong.new.self c.args.trail.now.literals o) c.in-Some.is w.ok;
    }

pub returns-in_err-walked : goal.returns-in_err-walked
returns-in_err-walked g c =
    let r = c.from_residual-in_err-walked in
    let p = err_from_is_err_and r.result r.ensures.1 in
    let b = c.loop-wrong.invariant in
    let v = c.in_err-walked.ensures in
    look_after r.result b.grows b.steps b.faults b.sofar
    (look_behind r.result c.in_ok-wrong.ensures.keeps
    (look_stopped r.result r.ensures.0 v.grows v.steps (counts_on Walked r.result p.0 _ _ _ p.1 p.2 v.counts)))

pub say-requires : goal.say-requires
say-requires g c =
    let v = c.in_ok-walked.ensures in
    record {
      stands = v.ok.sofar.stands;
      ends = said_of c.last_wrong.new.self c.walk.new.self c.args.trail.now.literals c.walk.new.budget
          c.in_ok-walked.walked (sym c.is_again.ensures ∙ c.if-not-is_again.true) v.ok.end;
    }

pub returns-then-not-is_again : goal.returns-then-not-is_again
returns-then-not-is_again g c =
    let r = c.say.result in
    let b = c.loop-wrong.invariant in
    let v = c.in_ok-walked.ensures in
    look_after r b.grows b.steps b.faults b.sofar
    (look_behind r c.in_ok-wrong.ensures.keeps (look_after r v.grows v.steps v.counts v.ok.sofar c.say.ensures))

pub take_in-requires : goal.take_in-requires
take_in-requires g c = c.in_ok-walked.ensures.ok.sofar.stands

pub returns-in_err-take_in : goal.returns-in_err-take_in
returns-in_err-take_in g c =
    let r = c.from_residual-in_err-take_in in
    let b = c.loop-wrong.invariant in
    let v = c.in_ok-walked.ensures in
    look_after r.result b.grows b.steps b.faults b.sofar
    (look_behind r.result c.in_ok-wrong.ensures.keeps (look_after r.result v.grows v.steps v.counts v.ok.sofar
    (look_failed r.result r.ensures.0 r.ensures.1 c.in_err-take_in.ensures.keeps.grows)))

pub clash_on-requires : goal.clash_on-requires
clash_on-requires g c = c.in_ok-take_in.ensures.ok.0.holds

pub returns-in_err-found : goal.returns-in_err-found
returns-in_err-found g c =
    let r = c.from_residual-in_err-found in
    let b = c.loop-wrong.invariant in
    let v = c.in_ok-walked.ensures in
    look_after r.result b.grows b.steps b.faults b.sofar
    (look_behind r.result c.in_ok-wrong.ensures.keeps (look_after r.result v.grows v.steps v.counts v.ok.sofar
    (look_failed r.result r.ensures.0 r.ensures.1
    (grows_both c.in_ok-take_in.ensures.keeps.grows c.in_err-found.ensures.keeps.grows))))

pub clash-requires : goal.clash-requires
clash-requires g c =
    let took = c.in_ok-take_in.ensures in
    let found = c.in_ok-found.ensures.ok in
    record {
      stands = stands_looked found.holds found.entries took.ok.0;
      whole = found.entries ∙ took.ok.1;
      clash = found.clash c.in-Some-found.serial c.in-Some-found.is;
    }

pub returns-in-Some-found : goal.returns-in-Some-found
returns-in-Some-found g c =
    let r = c.clash.result in
    let b = c.loop-wrong.invariant in
    let v = c.in_ok-walked.ensures in
    look_after r b.grows b.steps b.faults b.sofar
    (look_behind r c.in_ok-wrong.ensures.keeps (look_after r v.grows v.steps v.counts v.ok.sofar
    (look_behind r (keeps_both c.in_ok-take_in.ensures.keeps c.in_ok-found.ensures.keeps) c.clash.ensures)))

pub loop-wrong-preserved : goal.loop-wrong-preserved
loop-wrong-preserved g c =
    let b = c.loop-wrong.invariant in
    let w = c.in_ok-wrong.ensures in
    let v = c.in_ok-walked.ensures in
    let took = c.in_ok-take_in.ensures in
    let found = c.in_ok-found.ensures.ok in
    let keeps = keeps_both took.keeps c.in_ok-found.ensures.keeps in
    let entries = ap (λ (r : Rows). r.entries) w.rows in
    let stands = stands_looked found.holds found.entries took.ok.0 in
    let first = sofar_kept c.loop-wrong.budget (g.L.Tape.told c.loop-wrong.tape) w.keeps
    (stands_looked (holds_moved w.keeps w.rows w.noted b.stands.holds) entries b.stands) in
    let last = sofar_kept c.walk.new.budget (g.L.Tape.told c.walk.new.tape) keeps stands in
    let steps = spent_both c.args.budget.now c.loop-wrong.budget c.walk.new.budget b.steps v.steps in
    record {
      stands = stands;
      whole = found.entries ∙ took.ok.1;
      settled = found.settled c.in_default-found.is;
      sofar = sofar_both steps (spent_none c.walk.new.budget)
          (sofar_both b.steps v.steps (sofar_both b.steps (spent_none c.loop-wrong.budget) b.sofar first) v.ok.sofar)
          last;
      grows = grows_both (grows_both (grows_both b.grows w.keeps.grows) v.grows) keeps.grows;
      steps = steps;
      faults = v.counts ∙ b.faults;
    }

pub loop-wrong-smaller : goal.loop-wrong-smaller
loop-wrong-smaller g c =
    let v = c.in_ok-walked.ensures in
    let found = c.in_ok-found.ensures.ok in
    let entries = c.args.trail.now.literals in
    omega (
      arith,
      noted_of c.last_wrong.new.self c.walk.new.self entries c.walk.new.budget c.in_ok-walked.walked (sym
          c.is_again.ensures ∙ c.if-not-is_again.false) v.ok.end,
      unnoted_same c.loop-wrong.self c.last_wrong.new.self entries c.in_ok-wrong.ensures.noted,
      unnoted_same c.walk.new.self c.clash_on.new.self entries (found.noted ∙ c.in_ok-take_in.ensures.noted),
    )
