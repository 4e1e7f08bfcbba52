use Rattle.std.proofs.Common.{◌≡◌, List, ℕ, take, subst, sym, ap, ◌∙◌}
use Rattle.std.specs.String.{string_bytes}
use Rattle.std.proofs.lemmas.List.{take_all}
use Rattle.sb_word.specs.Literals.{Literal, literal_text}
use Rattle.sb_word.proofs.LiteralLemmas.{literal-printed}
use Rattle.sb_word.proofs.literal.print_literal.Goals as goal

pub returns-clause-literal : goal.returns-clause-literal
returns-clause-literal c =
    let codes = c.codes-code-items in
    let word : List ℕ = c.args.word.now in
    let whole : take c.loop-code.code-index codes.result.now ≡ word =
    take_all c.loop-code.code-index codes.result.now c.loop-code-test.false ∙ codes.ensures.value in
    let written : string_bytes c.loop-code.text ≡ literal_text word = c.loop-code.invariant ∙ ap literal_text whole in
    subst (λ bytes. Literal bytes word) (sym written) (literal-printed word codes.ensures.word)
