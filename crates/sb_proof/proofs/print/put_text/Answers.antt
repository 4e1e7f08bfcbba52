use Rattle.std.proofs.Common.{[], ◌∷◌, ◌++◌, map, codes, decimal, sym, ap, ap₂, ◌∙◌, arith}
use Rattle.std.specs.List.{join_with_byte}
use Rattle.std.specs.String.{string_bytes}
use Rattle.std.proofs.lemmas.Result.{IfOk-from_err, on_ok_weaker}
use Rattle.sb_rulebook.specs.Lines.{literal_text, class_text, rule_text, text_of}
use Rattle.sb_proof.specs.Fields.{spaced}
use Rattle.sb_proof.specs.Lines.{class_in, rule_in, line_in}
use Rattle.sb_proof.proofs.FieldFacts.{around, ends, joined_more, listed, viewed}
use Rattle.std.proofs.lemmas.Grind.{common_steps}
use Rattle.sb_proof.proofs.print.put_text.Goals as goal

pub returns-in_ok-put_named-in-Expansion : goal.returns-in_ok-put_named-in-Expansion
returns-in_ok-put_named-in-Expansion c =
    let slice = c.as_slice.result.now in
    let classes = c.in-Expansion.classes.items in
    let regex = decimal c.in-Expansion.regex ∷ [] in
    on_ok_weaker c.put_fields.result
    (λ e. ends (string_bytes c.args.text.now) (join_with_byte 32 (codes "x" ∷ regex))
    (spaced (map (λ k. class_text (class_in k)) slice)) c.in_ok-put_named-in-Expansion.ensures e
    (ap (λ fs. join_with_byte 32 (codes "x" ∷ regex) ++ spaced fs)
    (viewed class_text class_in slice classes c.as_slice.ensures.value)
    ∙ joined_more 32 (codes "x") regex (map class_text (map class_in classes))
    ∙ ap (λ l. text_of (line_in l)) (sym c.in-Expansion.is)))
    c.put_fields.ensures

pub returns-in-Rule : goal.returns-in-Rule
returns-in-Rule c =
    let slice = c.as_slice-in-Rule.result.now in
    on_ok_weaker c.put_named-in-Rule.result
    (λ e. e ∙ ap (λ bs. string_bytes c.args.text.now ++ bs)
    (ap (λ word. join_with_byte 32 (word ∷ map literal_text slice)) c.words_of.ensures
    ∙ listed (codes "c") (rule_text (rule_in c.in-Rule.rule)) literal_text slice c.in-Rule.literals.items
    c.as_slice-in-Rule.ensures.value
    ∙ ap (λ l. text_of (line_in l)) (sym c.in-Rule.is)))
    c.put_named-in-Rule.ensures

pub returns-in_ok-put_named-in-Learned : goal.returns-in_ok-put_named-in-Learned
returns-in_ok-put_named-in-Learned c =
    let literals = map literal_text c.as_slice-in-Learned.result.now in
    let hints = map decimal c.as_slice-in-Learned-2.result.now in
    on_ok_weaker c.put_named-in-Learned-2.result
    (λ e. ends (string_bytes c.args.text.now) (join_with_byte 32 (codes "c learn" ∷ literals))
    (join_with_byte 32 (codes " :" ∷ hints)) c.in_ok-put_named-in-Learned.ensures e
    (around (codes "c") (codes "learn") literals hints
    ∙ ap₂ (λ ls hs. join_with_byte 32 (codes "c" ∷ codes "learn" ∷ (ls ++ codes ":" ∷ hs)))
    (ap (map literal_text) c.as_slice-in-Learned.ensures.value)
    (ap (map decimal) c.as_slice-in-Learned-2.ensures.value)
    ∙ ap (λ l. text_of (line_in l)) (sym c.in-Learned.is)))
    c.put_named-in-Learned-2.ensures

pub returns-in_ok-put_named-in-Assertion : goal.returns-in_ok-put_named-in-Assertion
returns-in_ok-put_named-in-Assertion c = grind (arith, common_steps)

pub returns-in_err-put_named-in-Assertion : goal.returns-in_err-put_named-in-Assertion
returns-in_err-put_named-in-Assertion c = IfOk-from_err c.from_residual-in_err-put_named-in-Assertion.result _ c.from_residual-in_err-put_named-in-Assertion.ensures.0

pub returns-in_err-put_named-in-Expansion : goal.returns-in_err-put_named-in-Expansion
returns-in_err-put_named-in-Expansion c = IfOk-from_err c.from_residual.result _ c.from_residual.ensures.0

pub returns-in_err-put_named-in-Learned : goal.returns-in_err-put_named-in-Learned
returns-in_err-put_named-in-Learned c = IfOk-from_err c.from_residual-in_err-put_named-in-Learned.result _ c.from_residual-in_err-put_named-in-Learned.ensures.0
