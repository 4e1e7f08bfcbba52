use Rattle.std.proofs.Common.{length, subst}
use Rattle.sb_regex.proofs.CallerLemmas.{number_in, number_kept, names_below, two_numbers, extends_more}
use Rattle.sb_plain.proofs.Shapes.{two_parts, one_part}
use Rattle.sb_plain.specs.Making.{OperandIsKnown}
use Rattle.sb_plain.proofs.shape.Operation.make.Goals as goal

pub alt-requires : goal.alt-requires
alt-requires c =
    let old = c.args.arena.now in
    let new = c.cat-in-CatOrRest.new.self in
    two_numbers (length new) c.in_ok-front-in-CatOrRest.front c.index-ids-1.result
    (names_below _ _ _ c.in_ok-front-in-CatOrRest.ensures.ok)
    (number_kept old new c.index-ids-1.result c.in_ok-front-in-CatOrRest.ensures.extends
    (number_in old c.args.ids.now 1 _ c.requires.members
    (two_parts c.args.self.now c.in-CatOrRest.b (length c.args.ids.now) c.in-CatOrRest.is c.requires.long)
    c.index-ids-1.is))

pub cat_with_rep-requires : goal.cat_with_rep-requires
cat_with_rep-requires c =
    record {
      front = number_in c.args.arena.now c.args.ids.now 0 _ c.requires.members
          (one_part c.args.self.now c.in-Rep.a c.in-Rep.least c.in-Rep.most (length c.args.ids.now) c.in-Rep.is
          c.requires.long) c.index-ids-0-in-Rep.is;
      body = subst (OperandIsKnown c.args.arena.now) c.in-Rep.is c.requires.operand;
    }

pub returns-in_ok-front-in-CatOrRest-clause-extends : goal.returns-in_ok-front-in-CatOrRest-clause-extends
returns-in_ok-front-in-CatOrRest-clause-extends c =
    extends_more c.args.arena.now c.cat-in-CatOrRest.new.self c.alt.new.self
    c.in_ok-front-in-CatOrRest.ensures.extends c.alt.ensures.extends
