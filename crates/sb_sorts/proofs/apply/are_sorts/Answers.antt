use Rattle.std.proofs.Common.{◌∙◌, rules, tests}
use Rattle.std.proofs.lemmas.Iterator.{YieldsList-from_slice, YieldsList-from_zip}
use Rattle.std.proofs.lemmas.Iterator.Consumers.{YieldsList-at}
use Rattle.std.proofs.lemmas.Iterator.Search.{all_from_yields_List}
use Rattle.sb_sorts.proofs.Applying.{fits, sorts_zip}
use Rattle.sb_sorts.proofs.apply.are_sorts.Goals as goal

pub returns : goal.returns
returns c =
    let pairs = YieldsList-from_zip
    (YieldsList-at c.zip.ensures.first (YieldsList-from_slice c.args.wanted.now c.iter.ensures.rest))
    (YieldsList-at c.zip.ensures.second (YieldsList-from_slice c.args.sorts.now c.iter-2.ensures.rest)) in
    all_from_yields_List fits c.all.new.self _ c.all.result c.all.ensures.ran pairs (λ x b q k. search (rules, tests))
    ∙ sorts_zip c.args.wanted.now c.args.sorts.now c.requires
