use Rattle.std.proofs.Common.{map, ◌&&◌, ◌==◌, ◌-◌, ◌^◌, ap, sym, ◌∙◌}
use Rattle.sb_proof.specs.Lines.{said_in, value_in}
use Rattle.sb_rulebook.specs.Lines.{said_sat, said_unsat}
use Rattle.sb_stack.specs.Stacked.{question_of}
use Rattle.std.proofs.Common.{None}
use Rattle.sb_rulebook.specs.Kept.{AllKept}
use Rattle.sb_rules.specs.Kept.{kept_in}
use Rattle.sb_check.proofs.Wrong.{found_as, unknown_found}
use Rattle.sb_check.proofs.judge.Judge.wrong.Goals as goal

pub returns-in-Sat-clause-ok : goal.returns-in-Sat-clause-ok
returns-in-Sat-clause-ok c =
    found_as c.wrong_values.result (question_of c.args.self.now.stack) c.args.self.now.kept
    (said_in c.args.said.now) (said_sat (map value_in c.deref.result.now))
    (ap said_in c.in-Sat.is ∙ ap (λ xs. said_sat (map value_in xs)) (sym c.deref.ensures.value))
    c.wrong_values.ensures.ok

pub returns-in-Unsat-clause-ok : goal.returns-in-Unsat-clause-ok
returns-in-Unsat-clause-ok c =
    found_as c.wrong_clause.result (question_of c.args.self.now.stack) c.args.self.now.kept
    (said_in c.args.said.now) (said_unsat c.in-Unsat.id None) (ap said_in c.in-Unsat.is) c.wrong_clause.ensures.ok

pub returns-in_ok-inside-in-Unknown-clause-ok : goal.returns-in_ok-inside-in-Unknown-clause-ok
returns-in_ok-inside-in-Unknown-clause-ok c others format =
    unknown_found c.args.self.now.stack (kept_in c.args.self.now.kept others) (said_in c.args.said.now)
    c.in-Unknown.limit c.in_ok-inside-in-Unknown.inside c.is_used_up-used_up.result (ap said_in c.in-Unknown.is)
    c.in_ok-inside-in-Unknown.ensures.ok
    (c.is_used_up-used_up.ensures
    ∙ ap (λ (k : AllKept). (c.in-Unknown.limit == 2 ^ 64 - 1) && (k.counted == c.in-Unknown.limit))
    (c.is_inside.ensures.kept others))
    ∙ sym c.unless_both.ensures
