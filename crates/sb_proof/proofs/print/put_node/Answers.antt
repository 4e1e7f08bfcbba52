use Rattle.std.proofs.Common.{◌++◌, codes, decimal, sym, ap, ◌∙◌}
use Rattle.std.specs.String.{string_bytes}
use Rattle.std.proofs.lemmas.Result.{IfOk-from_err, on_ok_weaker}
use Rattle.sb_rulebook.specs.Lines.{ranges_text, regex_line, set_node, text_of}
use Rattle.sb_proof.specs.Lines.{node_in}
use Rattle.sb_proof.proofs.FieldFacts.{ends, last_piece, listed}
use Rattle.sb_proof.proofs.print.put_node.Goals as goal

pub returns-in-None : goal.returns-in-None
returns-in-None c =
    last_piece c.push_str.result _ _ c.push_str.ensures.bytes
    (ap (λ n. text_of (regex_line (node_in n))) (sym c.in-None.is))

pub returns-in-Eps : goal.returns-in-Eps
returns-in-Eps c =
    last_piece c.push_str-in-Eps.result _ _ c.push_str-in-Eps.ensures.bytes
    (ap (λ n. text_of (regex_line (node_in n))) (sym c.in-Eps.is))

pub returns-in_ok-push_str-in-Set : goal.returns-in_ok-push_str-in-Set
returns-in_ok-push_str-in-Set c =
    on_ok_weaker c.put_ranges.result
    (λ e. ends (string_bytes c.args.text.now) (codes "r set ") (ranges_text c.as_slice.result.now)
    c.in_ok-push_str-in-Set.ensures.bytes e
    (ap (λ rs. text_of (regex_line (set_node rs))) c.as_slice.ensures.value
    ∙ ap (λ n. text_of (regex_line (node_in n))) (sym c.in-Set.is)))
    c.put_ranges.ensures

pub returns-in-Alt : goal.returns-in-Alt
returns-in-Alt c =
    on_ok_weaker c.put_named-in-Alt.result
    (λ e. e ∙ ap (λ bs. string_bytes c.args.text.now ++ bs)
    (listed (codes "r") (codes "alt") decimal c.as_slice-in-Alt.result.now c.in-Alt.parts.items
    c.as_slice-in-Alt.ensures.value
    ∙ ap (λ n. text_of (regex_line (node_in n))) (sym c.in-Alt.is)))
    c.put_named-in-Alt.ensures

pub returns-in-And : goal.returns-in-And
returns-in-And c =
    on_ok_weaker c.put_named-in-And.result
    (λ e. e ∙ ap (λ bs. string_bytes c.args.text.now ++ bs)
    (listed (codes "r") (codes "and") decimal c.as_slice-in-And.result.now c.in-And.parts.items
    c.as_slice-in-And.ensures.value
    ∙ ap (λ n. text_of (regex_line (node_in n))) (sym c.in-And.is)))
    c.put_named-in-And.ensures

pub returns-in-Cat : goal.returns-in-Cat
returns-in-Cat c =
    on_ok_weaker c.put_named.result
    (λ e. e ∙ ap (λ n. string_bytes c.args.text.now ++ text_of (regex_line (node_in n))) (sym c.in-Cat.is))
    c.put_named.ensures

pub returns-in-Not : goal.returns-in-Not
returns-in-Not c =
    on_ok_weaker c.put_named-in-Not.result
    (λ e. e ∙ ap (λ n. string_bytes c.args.text.now ++ text_of (regex_line (node_in n))) (sym c.in-Not.is))
    c.put_named-in-Not.ensures

pub returns-in-Star : goal.returns-in-Star
returns-in-Star c =
    on_ok_weaker c.put_named-in-Star.result
    (λ e. e ∙ ap (λ n. string_bytes c.args.text.now ++ text_of (regex_line (node_in n))) (sym c.in-Star.is))
    c.put_named-in-Star.ensures

pub returns-in-Rep : goal.returns-in-Rep
returns-in-Rep c =
    on_ok_weaker c.put_named-in-Rep.result
    (λ e. e ∙ ap (λ n. string_bytes c.args.text.now ++ text_of (regex_line (node_in n))) (sym c.in-Rep.is))
    c.put_named-in-Rep.ensures

pub returns-in-Path : goal.returns-in-Path
returns-in-Path c =
    on_ok_weaker c.put_named-in-Path.result
    (λ e. e ∙ ap (λ n. string_bytes c.args.text.now ++ text_of (regex_line (node_in n))) (sym c.in-Path.is))
    c.put_named-in-Path.ensures

pub returns-in_err-push_str-in-Set : goal.returns-in_err-push_str-in-Set
returns-in_err-push_str-in-Set c = IfOk-from_err c.from_residual.result _ c.from_residual.ensures.0
