use Rattle.std.proofs.Common.{◌&&◌, refl, ap, sym, ◌∙◌}
use Rattle.std.proofs.lemmas.Result.{IfOk-from_err}
use Rattle.std.specs.List.{list_all}
use Rattle.std.specs.Option.{option_copied}
use Rattle.sb_rulebook.specs.Verdicts.{denies_assumption, unless_wrong}
use Rattle.sb_rules.specs.Kept.{kept_in}
use Rattle.sb_stack.specs.Stacked.{question_of}
use Rattle.sb_check.specs.Denying.{is_given, denies_in}
use Rattle.sb_check.proofs.Denials.{all_denied}
use Rattle.sb_check.proofs.Wrong.{of_literals}
use Rattle.sb_check.proofs.judge.Judge.wrong_clause.Goals as goal

pub returns-in_err-refuted : goal.returns-in_err-refuted
returns-in_err-refuted c = record {
  ok = IfOk-from_err c.from_residual.result _ c.from_residual.ensures.0;
  kept = λ others. refl;
  same = record { stack = refl; begun = refl; next = refl };
  standing = c.requires;
}

pub returns-clause-ok : goal.returns-clause-ok
returns-clause-ok c others format =
    let q = question_of c.args.self.now.stack in
    let kept = kept_in c.args.self.now.kept others in
    let ls = c.in-Some.literals.now in
    of_literals q kept c.args.id ls (sym (ap option_copied c.in-Some.is) ∙ c.clause.ensures) format
    ∙ (ap (λ inside. unless_wrong (inside && list_all (denies_assumption q kept) ls)) (sym c.in_ok-inside.ensures.ok)
    ∙ (ap (λ refuted. unless_wrong (c.in_ok-inside.inside && refuted))
    (all_denied c.args.self.now.kept others q ls
    ∙ (ap (λ given. list_all (denies_in (is_given given) c.args.self.now.kept.atoms) ls) (sym c.assumptions.ensures.value)
    ∙ sym c.in_ok-refuted.ensures))
    ∙ sym c.unless_both.ensures))
