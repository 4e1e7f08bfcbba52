use Rattle.std.proofs.Common.{[], not, if◌then◌else◌, Err, ap, sym, ◌∙◌, refl}
use Rattle.std.proofs.lemmas.Result.{err_from_is_err_and}
use Rattle.sb_rulebook.specs.Follows.{follows}
use Rattle.sb_rulebook.specs.Kept.{AllKept, counting, with_clause}
use Rattle.sb_rulebook.specs.Lines.{rule_line, step}
use Rattle.sb_rulebook.specs.Refusals.{rule_broken}
use Rattle.sb_rules.specs.Kept.{kept_in}
use Rattle.sb_rules.proofs.Staying.{judged_by, wanted}
use Rattle.sb_rules.proofs.Emptied.{by_rule_step}
use Rattle.sb_regex.proofs.CallerLemmas.{extends_same, extends_more}
use Rattle.sb_rules.proofs.kept.Kept.add_step.Goals as goal

pub returns-then-not-branch-clause-judges : goal.returns-then-not-branch-clause-judges
returns-then-not-branch-clause-judges c = λ asked limit others. (
  by_rule_step asked c.args.self.now others c.args.literals.now c.in_ok-is_step.field-0 c.requires.known
      (sym c.in_ok-is_repeated.ensures ∙ c.if-branch.false)
      (sym c.are_ascending.ensures ∙ c.if-not-are_ascending.false) (c.in_ok-is_step.ensures.ok others)
      ∙ ap (λ b. if not b then Err rule_broken
      else counting asked (with_clause (kept_in c.args.self.now others) c.args.literals.now 0 [])) c.if-not-branch.true,
  c.is_step.ensures.kept others,
)

pub returns-clause-judges : goal.returns-clause-judges
returns-clause-judges c = λ asked limit others.
    judged_by c.add_counted.result (follows asked (kept_in c.args.self.now others) (rule_line step c.args.literals.now))
    (counting asked (with_clause (kept_in c.is_step.new.self others) c.args.literals.now 0 []))
    c.args.self.now c.is_step.new.self c.add_counted.new.self others
    (by_rule_step asked c.args.self.now others c.args.literals.now c.in_ok-is_step.field-0 c.requires.known
    (sym c.in_ok-is_repeated.ensures ∙ c.if-branch.false)
    (sym c.are_ascending.ensures ∙ c.if-not-are_ascending.false) (c.in_ok-is_step.ensures.ok others)
    ∙ (ap (λ b. if not b then Err rule_broken
    else counting asked (with_clause (kept_in c.args.self.now others) c.args.literals.now 0 [])) c.if-not-branch.false
    ∙ ap (λ (k : AllKept). counting asked (with_clause k c.args.literals.now 0 []))
    (sym (c.is_step.ensures.kept others))))
    (c.is_step.ensures.kept others) (c.add_counted.ensures.counts asked others [] limit)

pub returns-then-not-are_ascending-clause-terms : goal.returns-then-not-are_ascending-clause-terms
returns-then-not-are_ascending-clause-terms c = record { extends = extends_same _; normals = refl; measures = refl }

pub returns-clause-terms : goal.returns-clause-terms
returns-clause-terms c = record {
  extends = extends_more _ _ _ c.is_step.ensures.terms.extends c.add_counted.ensures.terms.extends;
  normals = c.add_counted.ensures.terms.normals ∙ c.is_step.ensures.terms.normals;
  measures = c.add_counted.ensures.terms.measures ∙ c.is_step.ensures.terms.measures;
}

pub returns-in_err-is_repeated-clause-judges : goal.returns-in_err-is_repeated-clause-judges
returns-in_err-is_repeated-clause-judges c = λ asked limit others.
    let x = c.from_residual in
    let p = err_from_is_err_and x.result x.ensures.1 in
    wanted _ x.result p.0 _ c.args.self.now c.args.self.now others p.1 p.2 refl

pub returns-in_err-is_step-clause-judges : goal.returns-in_err-is_step-clause-judges
returns-in_err-is_step-clause-judges c = λ asked limit others.
    let x = c.from_residual-in_err-is_step in
    let p = err_from_is_err_and x.result x.ensures.1 in
    wanted _ x.result p.0 _ c.args.self.now c.is_step.new.self others p.1 p.2 (c.is_step.ensures.kept others)

pub is_step-requires-clause-ascending : goal.is_step-requires-clause-ascending
is_step-requires-clause-ascending c = sym c.are_ascending.ensures ∙ c.if-not-are_ascending.false
