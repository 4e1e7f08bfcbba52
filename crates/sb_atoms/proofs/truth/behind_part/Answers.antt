use Rattle.std.proofs.Common.{sym, ap, subst, ◌∙◌}
use Rattle.std.specs.Prelude.{IfOk}
use Rattle.sb_word.specs.Words.{IsWord}
use Rattle.sb_regex.specs.Numbered.{regex_at}
use Rattle.sb_problem.specs.declared.pieces.Part.{Part}
use Rattle.sb_problem.specs.Parts.{is_written, piece_in}
use Rattle.sb_atoms.specs.Truths.{piece_word, IsBehind}
use Rattle.sb_atoms.proofs.TruthFacts.{behind_word}
use Rattle.sb_atoms.proofs.truth.behind_part.Goals as goal

pub returns-in-Constant-clause-ok : goal.returns-in-Constant-clause-ok
returns-in-Constant-clause-ok c =
    subst (λ (p : Part). IfOk c.behind_constant.result (IsBehind c.behind_constant.new.arena
    (regex_at c.args.arena.now c.args.regex) (piece_word c.args.values.now (piece_in p))))
    (sym c.in-Constant.is) c.behind_constant.ensures.ok

pub along-requires-clause-word : goal.along-requires-clause-word
along-requires-clause-word c =
    subst IsWord (sym c.deref.ensures.value)
    (sym (ap (λ (p : Part). is_written (piece_in p)) c.in-Word.is) ∙ c.requires.written)

pub returns-in-Word-clause-ok : goal.returns-in-Word-clause-ok
returns-in-Word-clause-ok c =
    let written = sym (ap (λ (p : Part). is_written (piece_in p)) c.in-Word.is) ∙ c.requires.written in
    subst (λ (p : Part). IfOk c.along.result (IsBehind c.along.new.arena (regex_at c.args.arena.now c.args.regex)
    (piece_word c.args.values.now (piece_in p))))
    (sym c.in-Word.is)
    (behind_word c.along.new.arena (regex_at c.args.arena.now c.args.regex) c.deref.result.now c.in-Word.codes.items
    (subst IsWord (sym c.deref.ensures.value) written) c.deref.ensures.value c.along.result c.along.ensures.ok)
