use Rattle.std.proofs.Common.{option_map, sym, ap, subst, ◌∙◌}
use Rattle.sb_script.specs.Pieces.{word_of}
use Rattle.sb_term.specs.Numbered.{term_at}
use Rattle.sb_problem.specs.Parts.{are_written, parts_in}
use Rattle.sb_atoms.specs.Affixes.{IsItsWord}
use Rattle.sb_atoms.proofs.AffixFacts.{no_pieces_word, its_word}
use Rattle.sb_atoms.proofs.affixes.ground_word.Goals as goal

pub returns-in_default-clause-ok : goal.returns-in_default-clause-ok
returns-in_default-clause-ok c =
    let none = rw c.in_default.is at c.in_ok-parts.ensures.ok in
    no_pieces_word (term_at c.args.table.now c.args.id) (sym none)

pub word_of-requires : goal.word_of-requires
word_of-requires c =
    let written = rw c.in-Some.is at c.in_ok-parts.ensures.written in
    ap (λ ps. are_written (parts_in ps)) c.deref.ensures.value ∙ written

pub returns-clause-ok : goal.returns-clause-ok
returns-clause-ok c =
    let found = rw c.in-Some.is at c.in_ok-parts.ensures.ok in
    its_word (term_at c.args.table.now c.args.id) (parts_in c.in-Some.parts.items)
    (option_map (λ w. w.items) c.in_ok-word.word) found
    (subst (λ ps. IsItsWord (word_of (parts_in ps)) (option_map (λ w. w.items) c.in_ok-word.word))
    c.deref.ensures.value c.in_ok-word.ensures)
