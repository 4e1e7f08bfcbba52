use Rattle.sb_split.proofs.Words.{◌∙◌, map, sym, piece_in}
use Rattle.sb_split.proofs.FrontFacts.{alone_whole, constant_front_is}
use Rattle.sb_split.proofs.fronts.constant_front.Goals as goal

pub returns-then-is_empty : goal.returns-then-is_empty
returns-then-is_empty c =
    alone_whole c.args.serial c.args.behind.now c.args.regex (sym c.is_empty.ensures ∙ c.if-is_empty.true)

pub returns : goal.returns
returns c =
    constant_front_is c.args.serial c.args.behind.now (map piece_in c.in_ok-rest.rest.items) c.args.regex
    (sym c.is_empty.ensures ∙ c.if-is_empty.false) c.requires c.in_ok-rest.ensures.0
