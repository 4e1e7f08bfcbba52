use Rattle.std.proofs.Common.{inl, inr, false, ◌≡◌, refl, ap, sym, subst, ◌∙◌}
use Rattle.sb_rulebook.specs.Brought.{is_brought_rule}
use Rattle.sb_rulebook.specs.Lines.{rule_line}
use Rattle.sb_regex.proofs.CallerLemmas.{extends_same}
use Rattle.sb_proof.specs.Lines.{rule_in}
use Rattle.sb_rules.specs.Judged.{Judges}
use Rattle.sb_rules.proofs.Gated.{by_other_rule}
use Rattle.sb_rules.proofs.kept.Kept.add_by_rule.Goals as goal

pub returns-in-Gate-clause-judges : goal.returns-in-Gate-clause-judges
returns-in-Gate-clause-judges c = λ asked limit.
    subst (λ r. Judges c.add_gate.result asked c.args.self.now c.add_gate.new.self
    (rule_line (rule_in r) c.args.literals.now)) (sym c.in-Gate.is) (c.add_gate.ensures.judges asked)

pub returns-in-Step-clause-judges : goal.returns-in-Step-clause-judges
returns-in-Step-clause-judges c = λ asked limit.
    subst (λ r. Judges c.add_step.result asked c.args.self.now c.add_step.new.self
    (rule_line (rule_in r) c.args.literals.now)) (sym c.in-Step.is) (c.add_step.ensures.judges asked limit)

pub returns-in-Order : goal.returns-in-Order
returns-in-Order c =
    let ls = c.args.literals.now in
    let other : is_brought_rule (rule_in c.args.rule) ls ≡ false =
    elim c.in-Order.is [
      | inl e ↦ ap (λ r. is_brought_rule (rule_in r) ls) e
      | inr e ↦ ap (λ r. is_brought_rule (rule_in r) ls) e
    ]
    in
    record {
      judges = λ asked limit others. (
        by_other_rule asked c.args.self.now others ls (rule_in c.args.rule)
            (sym c.are_known.ensures ∙ c.if-not-are_known.false) other,
        refl,
      );
      whole = c.requires;
      terms = record { extends = extends_same _; normals = refl; measures = refl };
    }
