use Rattle.std.proofs.Common.{◌∙◌, rules, tests}
use Rattle.std.proofs.lemmas.Iterator.{YieldsList-from_slice}
use Rattle.std.proofs.lemmas.Iterator.Search.{all_from_yields_List}
use Rattle.sb_meaning.specs.Sorts.{is_same_sort}
use Rattle.sb_term.specs.Symbols.{sort_in}
use Rattle.sb_sorts.proofs.Applying.{all_of}
use Rattle.sb_sorts.proofs.apply.are_all.Goals as goal

pub returns : goal.returns
returns c =
    all_from_yields_List (λ s. is_same_sort (sort_in c.args.sort) (sort_in s)) _ _ _ c.all.ensures.ran
    (YieldsList-from_slice c.args.sorts.now c.iter.ensures.rest) (λ x b q k. search (rules, tests))
    ∙ all_of c.args.sort c.args.sorts.now
