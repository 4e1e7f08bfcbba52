use Rattle.std.proofs.Common.{sym, ap, ◌∙◌}
use Rattle.sb_reader.specs.Forms.{shape_of, shapes_in}
use Rattle.sb_sorts.proofs.Shapes.{by_character, index_word}
use Rattle.sb_sorts.proofs.head.read_char.Goals as goal

pub returns-in-Some-character_of-clause-reads : goal.returns-in-Some-character_of-clause-reads
returns-in-Some-character_of-clause-reads c = λ ts.
    index_word (shapes_in c.args.indices) (shape_of c.in-Some.index) c.in-Some.ensures
    ∙ ap by_character (sym c.in-Some-character_of.ensures)

pub returns-in-None-clause-reads : goal.returns-in-None-clause-reads
returns-in-None-clause-reads c = λ ts.
    index_word (shapes_in c.args.indices) (shape_of c.in-Some.index) c.in-Some.ensures
    ∙ ap by_character (sym c.in-None.ensures)
