use Rattle.std.proofs.Common.{◌∷◌, Some, sym, ap, ◌∙◌, subst}
use Rattle.sb_reader.specs.Lexing.{token_of}
use Rattle.sb_reader.specs.Parsing.{AfterClose, IsAtom}
use Rattle.sb_reader.proofs.Reading.{reads_open, reads_too_deep, reads_close, reads_end, reads_push, reads_bad, reading_never_ends, not_parenthesis}
use Rattle.sb_reader.proofs.parse.parse_list.Goals as goal

pub returns-then-is_full : goal.returns-then-is_full
returns-then-is_full c =
    let r = c.loop-lexeme.invariant in
    let reads = sym (ap (λ l. Some (token_of l, c.in-Some.behind.now)) c.in-Open.is) ∙ c.in-Some.ensures.lexed in
    reads_too_deep r _ reads (sym (c.if-is_full.ensures (r.forms ∷ r.outer) r.laid))

pub loop-lexeme-preserved-in_ok-open-in-Open : goal.loop-lexeme-preserved-in_ok-open-in-Open
loop-lexeme-preserved-in_ok-open-in-Open c =
    let r = c.loop-lexeme.invariant in
    let reads = sym (ap (λ l. Some (token_of l, c.in-Some.behind.now)) c.in-Open.is) ∙ c.in-Some.ensures.lexed in
    reads_open r _ c.open.new.self reads (sym (c.if-is_full.ensures (r.forms ∷ r.outer) r.laid))
    (c.in_ok-open-in-Open.ensures (r.forms ∷ r.outer) r.laid)

pub returns-then-branch : goal.returns-then-branch
returns-then-branch c =
    let r = c.loop-lexeme.invariant in
    let reads = sym (ap (λ l. Some (token_of l, c.in-Some.behind.now)) c.in-Close.is) ∙ c.in-Some.ensures.lexed in
    let closed = subst (λ last. AfterClose last r.forms r.outer c.close.new.self) c.if-branch.true
    (c.in_ok-close-in-Close.ensures r.forms r.outer r.laid) in
    reads_end r _ c.close.new.self c.into_form.result reads closed
    (ap (λ v. v.items) c.into_form.ensures.nodes) (ap (λ v. v.items) c.into_form.ensures.bytes)

pub loop-lexeme-preserved-else-branch : goal.loop-lexeme-preserved-else-branch
loop-lexeme-preserved-else-branch c =
    let r = c.loop-lexeme.invariant in
    let reads = sym (ap (λ l. Some (token_of l, c.in-Some.behind.now)) c.in-Close.is) ∙ c.in-Some.ensures.lexed in
    let inside = subst (λ last. AfterClose last r.forms r.outer c.close.new.self) c.if-branch.false
    (c.in_ok-close-in-Close.ensures r.forms r.outer r.laid) in
    reads_close r _ c.close.new.self reads inside

pub returns-in_default-read_atom : goal.returns-in_default-read_atom
returns-in_default-read_atom c =
    let apart = not_parenthesis c.in-Some.lexeme c.in_default-lexeme.not-Open c.in_default-lexeme.not-Close in
    let bad = subst (λ o. IsAtom o (token_of c.in-Some.lexeme)) c.in_default-read_atom.is c.read_atom.ensures in
    reads_bad c.loop-lexeme.invariant _ (token_of c.in-Some.lexeme) c.in-Some.ensures.lexed apart bad

pub loop-lexeme-preserved : goal.loop-lexeme-preserved
loop-lexeme-preserved c =
    let r = c.loop-lexeme.invariant in
    let apart = not_parenthesis c.in-Some.lexeme c.in_default-lexeme.not-Open c.in_default-lexeme.not-Close in
    let is = subst (λ o. IsAtom o (token_of c.in-Some.lexeme)) c.in-Some-read_atom.is c.read_atom.ensures in
    reads_push r _ c.push.new.self (token_of c.in-Some.lexeme) c.in-Some-read_atom.atom c.in-Some.ensures.lexed apart is
    (c.in_ok-push-in_default-lexeme.ensures r.forms r.outer r.laid)

pub returns : goal.returns
returns c = λ tokens tail.
    reading_never_ends _ _ _ (c.loop-lexeme.invariant.reading tokens tail) c.in_default.ensures.lexed
