use Rattle.std.proofs.Common.{true, false, Some, sym, ap, ◌∙◌, subst}
use Rattle.sb_reader.specs.Lexing.{token_of}
use Rattle.sb_reader.specs.Parsing.{IsAtom}
use Rattle.sb_reader.proofs.Reading.{not_parenthesis}
use Rattle.sb_reader.proofs.OneEntry.{entry_begins, form_answer, stray_answer, bare_answer}
use Rattle.sb_reader.proofs.parse.parse_first.Goals as goal

pub returns-in_default : goal.returns-in_default
returns-in_default c = λ tokens s one. absurd (entry_begins c.args.bytes.now tokens s one c.in_default.ensures.lexed)

pub returns-in-Open : goal.returns-in-Open
returns-in-Open c =
    let reads = sym (ap (λ l. Some (token_of l, c.in-Some.rest.now)) c.in-Open.is) ∙ c.in-Some.ensures.lexed in
    form_answer c.args.bytes.now _ c.parse_list.result reads c.parse_list.ensures

pub returns-in-Close : goal.returns-in-Close
returns-in-Close c =
    let reads = sym (ap (λ l. Some (token_of l, c.in-Some.rest.now)) c.in-Close.is) ∙ c.in-Some.ensures.lexed in
    stray_answer c.args.bytes.now _ reads

pub returns-in-Some-read_atom : goal.returns-in-Some-read_atom
returns-in-Some-read_atom c =
    let token = token_of c.in-Some.lexeme in
    let atom = not_parenthesis c.in-Some.lexeme c.in_default-lexeme.not-Open c.in_default-lexeme.not-Close in
    let good = subst (λ o. IsAtom o token) c.in-Some-read_atom.is c.read_atom.ensures in
    bare_answer token c.args.bytes.now c.in-Some.rest.now false good.0 atom c.in-Some.ensures.lexed

pub returns-in-None : goal.returns-in-None
returns-in-None c =
    let token = token_of c.in-Some.lexeme in
    let atom = not_parenthesis c.in-Some.lexeme c.in_default-lexeme.not-Open c.in_default-lexeme.not-Close in
    let bad = subst (λ o. IsAtom o token) c.in-None.is c.read_atom.ensures in
    bare_answer token c.args.bytes.now c.in-Some.rest.now true bad atom c.in-Some.ensures.lexed
