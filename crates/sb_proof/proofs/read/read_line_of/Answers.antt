use Rattle.std.proofs.Common.{ℕ, List, Ok, ◌∙◌, sym, ap}
use Rattle.std.proofs.lemmas.Result.{IfOk-from_err}
use Rattle.std.proofs.lemmas.List.{map-id}
use Rattle.sb_rulebook.specs.Reading as reading
use Rattle.sb_rulebook.specs.Lines as lines
use Rattle.sb_proof.specs.Kinds.{line_reader}
use Rattle.sb_proof.specs.Views.{texts}
use Rattle.sb_proof.proofs.ReadFacts.{ok_made, err_made, any_made, one_made, some_made, word_made}
use Rattle.sb_proof.proofs.read.read_line_of.Goals as goal

pub returns-in-Ok-5 : goal.returns-in-Ok-5
returns-in-Ok-5 c =
    ap (λ (xs : List ℕ). Ok (lines.dead_line xs)) (sym (map-id c.in-Ok-5.regexes.items))
    ∙ ok_made _ lines.dead_line _ _ _ c.in_ok-regexes-in-Dead.ensures c.in-Ok-5.is
    ∙ sym (any_made reading.number (λ xs. xs) lines.dead_line (texts c.args.fields.now))
    ∙ ap (λ k. line_reader k (texts c.args.fields.now)) (sym c.in-Dead.is)

pub returns-in_err-atom-in-Atom : goal.returns-in_err-atom-in-Atom
returns-in_err-atom-in-Atom c = IfOk-from_err c.from_residual-in_err-atom-in-Atom.result _ c.from_residual-in_err-atom-in-Atom.ensures.0

pub returns-in_err-format-in-Header : goal.returns-in_err-format-in-Header
returns-in_err-format-in-Header c = IfOk-from_err c.from_residual.result _ c.from_residual.ensures.0

pub returns-in_err-node-in-Regex : goal.returns-in_err-node-in-Regex
returns-in_err-node-in-Regex c = IfOk-from_err c.from_residual-in_err-node-in-Regex.result _ c.from_residual-in_err-node-in-Regex.ensures.0

pub returns-in_err-regex-in-Expansion : goal.returns-in_err-regex-in-Expansion
returns-in_err-regex-in-Expansion c = IfOk-from_err c.from_residual-in_err-regex-in-Expansion.result _ c.from_residual-in_err-regex-in-Expansion.ensures.0

pub returns-in_err-regexes-in-Dead : goal.returns-in_err-regexes-in-Dead
returns-in_err-regexes-in-Dead c = IfOk-from_err c.from_residual-in_err-regexes-in-Dead.result _ c.from_residual-in_err-regexes-in-Dead.ensures.0

pub returns-in_err-said-in-Verdict : goal.returns-in_err-said-in-Verdict
returns-in_err-said-in-Verdict c = IfOk-from_err c.from_residual-in_err-said-in-Verdict.result _ c.from_residual-in_err-said-in-Verdict.ensures.0

pub returns-in-Err : goal.returns-in-Err
returns-in-Err c =
    err_made _ lines.header_line _ _ c.in-Err.fault c.in_ok-format-in-Header.ensures c.in-Err.is
    ∙ sym (one_made reading.number (λ x. x) lines.header_line (texts c.args.fields.now))
    ∙ ap (λ k. line_reader k (texts c.args.fields.now)) (sym c.in-Header.is)

pub returns-in-Err-2 : goal.returns-in-Err-2
returns-in-Err-2 c =
    err_made _ lines.regex_line _ _ c.in-Err-2.fault c.in_ok-node-in-Regex.ensures c.in-Err-2.is
    ∙ sym (word_made reading.nodes lines.regex_line (texts c.args.fields.now))
    ∙ ap (λ k. line_reader k (texts c.args.fields.now)) (sym c.in-Regex.is)

pub returns-in-Err-3 : goal.returns-in-Err-3
returns-in-Err-3 c =
    err_made _ lines.atom_line _ _ c.in-Err-3.fault c.in_ok-atom-in-Atom.ensures c.in-Err-3.is
    ∙ sym (word_made reading.atoms lines.atom_line (texts c.args.fields.now))
    ∙ ap (λ k. line_reader k (texts c.args.fields.now)) (sym c.in-Atom.is)

pub returns-in-Err-4 : goal.returns-in-Err-4
returns-in-Err-4 c =
    err_made _ (λ p. lines.expansion_line p.0 p.1) _ _ c.in-Err-4.fault c.in_ok-regex-in-Expansion.ensures c.in-Err-4.is
    ∙ sym (some_made reading.number reading.class (λ x xs. (x, xs)) (λ p. lines.expansion_line p.0 p.1) (texts c.args.fields.now))
    ∙ ap (λ k. line_reader k (texts c.args.fields.now)) (sym c.in-Expansion.is)

pub returns-in-Err-5 : goal.returns-in-Err-5
returns-in-Err-5 c =
    err_made _ lines.dead_line _ _ c.in-Err-5.fault c.in_ok-regexes-in-Dead.ensures c.in-Err-5.is
    ∙ sym (any_made reading.number (λ xs. xs) lines.dead_line (texts c.args.fields.now))
    ∙ ap (λ k. line_reader k (texts c.args.fields.now)) (sym c.in-Dead.is)

pub returns-in-Err-6 : goal.returns-in-Err-6
returns-in-Err-6 c =
    err_made _ lines.verdict_line _ _ c.in-Err-6.fault c.in_ok-said-in-Verdict.ensures c.in-Err-6.is
    ∙ sym (word_made reading.verdicts lines.verdict_line (texts c.args.fields.now))
    ∙ ap (λ k. line_reader k (texts c.args.fields.now)) (sym c.in-Verdict.is)

pub returns-in-Ok : goal.returns-in-Ok
returns-in-Ok c =
    ok_made _ lines.header_line _ _ _ c.in_ok-format-in-Header.ensures c.in-Ok.is
    ∙ sym (one_made reading.number (λ x. x) lines.header_line (texts c.args.fields.now))
    ∙ ap (λ k. line_reader k (texts c.args.fields.now)) (sym c.in-Header.is)

pub returns-in-Ok-2 : goal.returns-in-Ok-2
returns-in-Ok-2 c =
    ok_made _ lines.regex_line _ _ _ c.in_ok-node-in-Regex.ensures c.in-Ok-2.is
    ∙ sym (word_made reading.nodes lines.regex_line (texts c.args.fields.now))
    ∙ ap (λ k. line_reader k (texts c.args.fields.now)) (sym c.in-Regex.is)

pub returns-in-Ok-3 : goal.returns-in-Ok-3
returns-in-Ok-3 c =
    ok_made _ lines.atom_line _ _ _ c.in_ok-atom-in-Atom.ensures c.in-Ok-3.is
    ∙ sym (word_made reading.atoms lines.atom_line (texts c.args.fields.now))
    ∙ ap (λ k. line_reader k (texts c.args.fields.now)) (sym c.in-Atom.is)

pub returns-in-Ok-4 : goal.returns-in-Ok-4
returns-in-Ok-4 c =
    ok_made _ (λ p. lines.expansion_line p.0 p.1) _ _ _ c.in_ok-regex-in-Expansion.ensures c.in-Ok-4.is
    ∙ sym (some_made reading.number reading.class (λ x xs. (x, xs)) (λ p. lines.expansion_line p.0 p.1) (texts c.args.fields.now))
    ∙ ap (λ k. line_reader k (texts c.args.fields.now)) (sym c.in-Expansion.is)

pub returns-in-Ok-6 : goal.returns-in-Ok-6
returns-in-Ok-6 c =
    ok_made _ lines.verdict_line _ _ _ c.in_ok-said-in-Verdict.ensures c.in-Ok-6.is
    ∙ sym (word_made reading.verdicts lines.verdict_line (texts c.args.fields.now))
    ∙ ap (λ k. line_reader k (texts c.args.fields.now)) (sym c.in-Verdict.is)
