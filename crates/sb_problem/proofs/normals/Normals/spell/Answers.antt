use Rattle.std.proofs.Common.{refl, sym, ap, ◌∙◌}
use Rattle.sb_term.specs.Numbered.{term_at}
use Rattle.sb_problem.proofs.Takings.{spells_letters, spells_nothing, spells_parts}
use Rattle.sb_problem.proofs.TermShapes.{text_parts, word_of_node, written_word}
use Rattle.sb_problem.proofs.Texts.{silent_letters}
use Rattle.sb_problem.specs.Words.{letters_of}
use Rattle.sb_problem.proofs.normals.Normals.spell.Goals as goal

pub returns-then-is_silent : goal.returns-then-is_silent
returns-then-is_silent c =
    spells_nothing c.args.table.now c.args.next c.args.letters.now.items c.args.left.now.items
    (silent_letters (term_at c.args.table.now c.args.next) _ (c.requires.texts c.args.next)
    (sym c.is_silent.ensures ∙ c.if-is_silent.true))

pub returns-in-Word : goal.returns-in-Word
returns-in-Word c =
    let word = word_of_node c.args.table.now c.term.result.now c.in-Word.codes c.args.next c.term.ensures.value
    c.in-Word.is in
    spells_letters c.args.table.now c.args.next c.args.letters.now.items c.extend_from_slice.new.self.items
    c.args.left.now.items c.args.left.now.items c.deref.result.now
    (ap letters_of word ∙ sym c.deref.ensures.value)
    (rw c.deref.ensures.value (written_word c.term.result.now c.in-Word.codes c.in-Word.is c.term.ensures.written))
    c.in_ok-extend_from_slice.ensures.items refl

pub returns : goal.returns
returns c =
    let parts = text_parts c.args.table.now c.term.result.now c.args.next c.term.ensures.value c.in_default.not-Word
    c.requires.text in
    spells_parts c.args.table.now c.args.next c.args.letters.now.items c.args.left.now.items
    c.put_parts.new.left.items c.requires.number parts.0 parts.1 c.in_ok-put_parts.ensures
