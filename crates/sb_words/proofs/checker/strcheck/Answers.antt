use Rattle.std.proofs.Common.{◌≡◌, ◌∙◌, true, ap, ap₂, rules}
use Rattle.std.proofs.lemmas.Result.{IfOk-weaker}
use Rattle.clap.specs.Words.{app_of, with_rule}
use Rattle.clap.specs.Simple.{app_of_fields, on_top}
use Rattle.sb_words.specs.Required.{HasBoth}
use Rattle.sb_words.specs.CheckerWords.{bare}
use Rattle.sb_words.proofs.RequiredLemmas.{both_given}
use Rattle.sb_words.proofs.checker.strcheck.Goals as goal

pub returns-clause-app : goal.returns-clause-app
returns-clause-app c =
    let bare_is : app_of c.after_help-bare.result ≡ bare =
    ap app_of_fields c.after_help-bare.ensures ∙ ap app_of_fields c.override_usage.ensures
    ∙ ap app_of_fields c.about.ensures ∙ ap app_of_fields c.version.ensures
    ∙ ap (on_top (λ s. record s { has_version = true })) c.new.ensures.app in
    IfOk-weaker c.arg-2.result _ _ (λ command added. added.shape (search rules)
    ∙ ap₂ with_rule (c.in_ok-command.ensures.shape (search rules)
    ∙ ap₂ with_rule bare_is c.needed-script.ensures.rule) c.needed-proof.ensures.rule) c.arg-2.ensures

pub returns-clause-both : goal.returns-clause-both
returns-clause-both c = IfOk-weaker c.arg-2.result _ HasBoth (λ command added.
    both_given c.after_help-bare.result c.in_ok-command.command command c.needed-script.result c.needed-proof.result
    c.in_ok-command.ensures added (search rules) (search rules) (search rules) (search rules) c.needed-script.ensures
    c.needed-proof.ensures) c.arg-2.ensures
