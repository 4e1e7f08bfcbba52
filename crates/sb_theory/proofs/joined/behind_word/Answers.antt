use Rattle.sb_theory.proofs.Words.{walked}
use Rattle.sb_theory.proofs.Pieces.{along_missing}
use Rattle.sb_theory.proofs.joined.behind_word.Goals as goal

pub returns-in-Some-clause-grows : goal.returns-in-Some-clause-grows
returns-in-Some-clause-grows c =
    walked c.regexes_grow.ensures.arena _ _ _ c.along.ensures.extends c.along.ensures.right

pub returns-in-None-clause-ok : goal.returns-in-None-clause-ok
returns-in-None-clause-ok c =
    along_missing c.args.store.now.arena c.args.regex _ c.requires.known c.in-None.ensures.none
