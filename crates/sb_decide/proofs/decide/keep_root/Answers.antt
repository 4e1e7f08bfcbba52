use Rattle.sb_decide.proofs.Words.{sym, ◌∙◌, arith}
use Rattle.sb_decide.proofs.RootFacts.{last_below, root_of_last}
use Rattle.sb_decide.proofs.decide.keep_root.Goals as goal

pub index_mut-requires : goal.index_mut-requires
index_mut-requires c =
    let low = (last_below _ _ _ _ c.in-Some.ensures.cases.0 c.requires.within).1 in
    omega (arith, low, c.args.roots.now.ok.0)

pub returns : goal.returns
returns c = λ rs ms n is root rooted.
    root_of_last rs ms c.args.roots.now.items n _ c.in-Some.place.now c.args.root
    (sym is ∙ c.in-Some.ensures.cases.0) root rooted
