use Rattle.std.proofs.Common.{◌≡◌, ℕ, length, List, refl, arith}
use Rattle.std.proofs.lemmas.Result.{IfOk-weaker}
use Rattle.sb_lit.specs.declared.clause.Lit.{Lit}
use Rattle.sb_lit.specs.Budgets.{Spending}
use Rattle.sb_lit.specs.Kept.{Kept}
use Rattle.sb_trail.specs.declared.assigned.Assigned.{Assigned}
use Rattle.sb_search.specs.Asking.{IsFair, Falls}
use Rattle.sb_search.specs.declared.theory.Checked.{Checked}
use Rattle.sb_search.specs.declared.theory.Checked.TheVariants as checked
use Rattle.sb_dimacs.specs.Giving.{Gives}
use Rattle.sb_dimacs.proofs.theory.GivenTheory.check.Goals as goal

given_fair : (entries : List Assigned) (lemma : List Lit) (old new : Spending) (answer : Checked)
    → Gives lemma old new answer → IsFair (λ atom. Unit {0}) (λ clause. Unit {0}) entries answer
given_fair entries lemma old new checked.Fine given = absurd given
given_fair entries lemma old new (checked.Lemma clause) given = (λ l among. tt, tt)
given_fair entries lemma old new (checked.Ask l) given = absurd given
given_fair entries lemma old new checked.Spent given = tt

given_spent : (lemma : List Lit) (old new : Spending) (answer : Checked) → Gives lemma old new answer
    → answer ≡ checked.Spent → new.spent ≡ new.limit
given_spent lemma old new checked.Fine given is = absurd given
given_spent lemma old new (checked.Lemma clause) given is = cc
given_spent lemma old new (checked.Ask l) given is = absurd given
given_spent lemma old new checked.Spent given is = given

given_falls : (wishes : ℕ) (kept : Kept) (entries : List Assigned) (lemma : List Lit) (old new : Spending)
    (answer : Checked) → Gives lemma old new answer → new.spent ≡ old.spent
    → Falls (λ k es. wishes) (λ k es. wishes) kept entries answer
given_falls wishes kept entries lemma old new checked.Fine given same = absurd given
given_falls wishes kept entries lemma old new (checked.Lemma clause) given same =
    absurd (omega (arith, given.1, same))
given_falls wishes kept entries lemma old new (checked.Ask l) given same = absurd given
given_falls wishes kept entries lemma old new checked.Spent given same = tt

pub returns-in-Some : goal.returns-in-Some
returns-in-Some g c = record {
  stands = IfOk-weaker c.give.result _ _ (λ answer h. tt) c.give.ensures.given;
  wanted = refl;
  passes = λ atom h. h;
  teaches = λ clause t. t;
  limit = c.give.ensures.limit;
  spends = c.give.ensures.spends;
  within = c.give.ensures.within;
  fair =
      IfOk-weaker c.give.result _ _
      (λ answer h. given_fair c.args.trail.now.literals c.in-Some.lemma c.args.budget.now c.give.new.budget answer h)
      c.give.ensures.given;
  agrees = IfOk-weaker c.give.result _ _ (λ answer h last is. tt) c.give.ensures.given;
  spent =
      IfOk-weaker c.give.result _ _
      (λ answer h. given_spent c.in-Some.lemma c.args.budget.now c.give.new.budget answer h) c.give.ensures.given;
  falls =
      IfOk-weaker c.give.result _ _
      (λ answer h. given_falls (length c.args.self.now.wishes.items) c.args._clauses.now c.args.trail.now.literals
      c.in-Some.lemma c.args.budget.now c.give.new.budget answer h) c.give.ensures.given;
  puts = IfOk-weaker c.give.result _ _ (λ answer h. tt) c.give.ensures.given;
  counts = c.give.ensures.counts;
}
