use Rattle.std.proofs.Common.{rules, tests}
use Rattle.std.proofs.lemmas.Iterator.{YieldsList-from_slice}
use Rattle.std.proofs.lemmas.Iterator.Search.{position_from_yields_List}
use Rattle.sb_word.proofs.WordLemmas.{is_outside, position_outside}
use Rattle.sb_word.proofs.word.first_outside.Goals as goal

pub returns : goal.returns
returns c = position_outside c.args.codes.now _
    (position_from_yields_List is_outside _ _ _ c.position.ensures.ran (YieldsList-from_slice c.args.codes.now cc)
    (λ x b q k. search (rules, tests)))
