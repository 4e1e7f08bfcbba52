use Rattle.std.proofs.Common.{◌≡◌, ◌∙◌, true, ap, ap₂, rules}
use Rattle.std.proofs.lemmas.Result.{IfOk-weaker}
use Rattle.clap.specs.Words.{app_of, rule_of, with_rule}
use Rattle.clap.specs.Simple.{app_of_fields, on_top}
use Rattle.sb_words.specs.SolverWords.{proof, script, bare}
use Rattle.sb_words.proofs.solver.strsolve.Goals as goal

pub returns : goal.returns
returns c =
    let proof_is : rule_of c.help-proof.result ≡ proof = search rules in
    let script_is : rule_of c.help-script.result ≡ script = search rules in
    let bare_is : app_of c.after_help-bare.result ≡ bare =
    ap app_of_fields c.after_help-bare.ensures ∙ ap app_of_fields c.override_usage.ensures
    ∙ ap app_of_fields c.about.ensures ∙ ap app_of_fields c.version.ensures
    ∙ ap (on_top (λ s. record s { has_version = true })) c.new.ensures.app in
    IfOk-weaker c.arg-2.result _ _ (λ command added. added.shape (search rules)
    ∙ ap₂ with_rule (c.in_ok-command.ensures.shape (search rules) ∙ ap₂ with_rule bare_is proof_is) script_is) c.arg-2.ensures
