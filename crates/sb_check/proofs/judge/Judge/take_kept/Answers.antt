use Rattle.std.proofs.lemmas.Bool.{true≢false}
use Rattle.std.proofs.Common.{Err, subst, ap, ◌∙◌, sym}
use Rattle.sb_proof.specs.Lines.{line_in}
use Rattle.sb_rulebook.specs.Accepted.{asked_in}
use Rattle.sb_rules.specs.Judged.{Judges}
use Rattle.sb_rules.specs.Answers.{refusal_in}
use Rattle.sb_stack.specs.Stacked.{state_of}
use Rattle.sb_check.specs.Standing.{waiting_in}
use Rattle.sb_check.proofs.Asking.{asked_over}
use Rattle.sb_check.proofs.Taking.{kept_taken, kept_refused}
use Rattle.sb_rules.specs.Kept.{IsOver}
use Rattle.sb_check.proofs.judge.Judge.take_kept.Goals as goal

pub returns-in-Ok-clause-ok : goal.returns-in-Ok-clause-ok
returns-in-Ok-clause-ok c p a =
    let stack = c.args.self.now.stack in
    kept_taken (waiting_in stack) c.args.self.now c.follows.new.self (asked_in (state_of stack))
    (line_in c.args.line.now) p a
    (c.in-Ok.ensures.judges (asked_in (state_of stack)) (asked_over stack c.table.result.now c.assertions.result.now
    c.sorts.result.now c.table.ensures c.assertions.ensures.value c.sorts.ensures.value
    c.assertions.ensures.levels))

pub returns-in-Err-Refused-clause-err : goal.returns-in-Err-Refused-clause-err
returns-in-Err-Refused-clause-err c p a =
    let stack = c.args.self.now.stack in
    let asked = asked_in (state_of stack) in
    let judged = subst (λ r. Judges r asked c.args.self.now.kept c.follows.new.self (line_in c.args.line.now))
    (c.in-Err-Refused.is ∙ ap Err c.in-Err-Refused.field-0-is)
    (c.follows.ensures.judges asked (asked_over stack c.table.result.now c.assertions.result.now
    c.sorts.result.now c.table.ensures c.assertions.ensures.value c.sorts.ensures.value
    c.assertions.ensures.levels)) in
    kept_refused (waiting_in stack) c.args.self.now asked (line_in c.args.line.now) p
    (refusal_in c.in-Err-Refused.refusal) c.of_refusal.result a (λ others. (judged others).0) c.of_refusal.ensures

pub returns-in-Ok-clause-standing : goal.returns-in-Ok-clause-standing
returns-in-Ok-clause-standing c = record {
  over = subst (λ ts. IsOver ts c.follows.new.self) c.table.ensures c.follows.ensures.over;
  models = c.requires.standing.models;
  fresh = λ first. absurd (true≢false (sym c.requires.begun ∙ first));
}

pub returns-in-Err-Refused-clause-standing : goal.returns-in-Err-Refused-clause-standing
returns-in-Err-Refused-clause-standing c = record {
  over = subst (λ ts. IsOver ts c.follows.new.self) c.table.ensures c.follows.ensures.over;
  models = c.requires.standing.models;
  fresh = λ first. absurd (true≢false (sym c.requires.begun ∙ first));
}

pub returns-in-Err-NoMemory-clause-standing : goal.returns-in-Err-NoMemory-clause-standing
returns-in-Err-NoMemory-clause-standing c = record {
  over = subst (λ ts. IsOver ts c.follows.new.self) c.table.ensures c.follows.ensures.over;
  models = c.requires.standing.models;
  fresh = λ first. absurd (true≢false (sym c.requires.begun ∙ first));
}
