use Rattle.sb_split.proofs.Words.{map, piece_in}
use Rattle.sb_split.proofs.FrontFacts.{word_front_is}
use Rattle.sb_split.proofs.fronts.word_front.Goals as goal

pub returns : goal.returns
returns c =
    word_front_is c.args.word.now c.in_ok-codes.codes.items (map piece_in c.args.behind.now)
    (map piece_in c.in_ok-rest.rest.items) c.args.regex c.requires.word c.requires.formed c.in_ok-codes.ensures
    c.in_ok-rest.ensures.0
