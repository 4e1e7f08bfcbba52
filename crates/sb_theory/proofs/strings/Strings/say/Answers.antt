use Rattle.sb_theory.proofs.Words.{subst, spent_none}
use Rattle.sb_theory.proofs.Answering.{answers_asked, answers_spent, look_answered}
use Rattle.sb_theory.proofs.Moving.{keeps_none}
use Rattle.sb_theory.specs.Judged.{IsSaid}
use Rattle.sb_theory.proofs.strings.Strings.say.Goals as goal

pub returns-in-Ask : goal.returns-in-Ask
returns-in-Ask g c =
    let said = subst (IsSaid c.args.self.now c.args.trail.now.literals c.args.budget.now) c.in-Ask.is c.requires.ends in
    let keeps = keeps_none c.requires.stands.holds in
    look_answered _ keeps.grows (spent_none c.args.budget.now)
    (answers_asked c.in-Ask.literal c.requires.stands said.0 said.1 said.2 keeps)

pub step-requires : goal.step-requires
step-requires g c = record {
  stands = c.requires.stands;
  step = subst (IsSaid c.args.self.now c.args.trail.now.literals c.args.budget.now) c.in-Step.is c.requires.ends;
}

pub returns-in-Step : goal.returns-in-Step
returns-in-Step g c = c.step.ensures

pub returns-in-Spent : goal.returns-in-Spent
returns-in-Spent g c =
    let said = subst (IsSaid c.args.self.now c.args.trail.now.literals c.args.budget.now) c.in-Spent.is c.requires.ends
    in
    let keeps = keeps_none c.requires.stands.holds in
    look_answered _ keeps.grows (spent_none c.args.budget.now) (answers_spent c.requires.stands said keeps)
