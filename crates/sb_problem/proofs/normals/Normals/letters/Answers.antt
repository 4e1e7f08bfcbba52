use Rattle.std.proofs.Common.{◌<◌, sym, subst}
use Rattle.sb_term.specs.Numbered.{terms_at}
use Rattle.sb_problem.specs.Taking.{Spelling, weight_of}
use Rattle.sb_problem.proofs.Chains.{none_left}
use Rattle.sb_problem.proofs.Takings.{spelling_start, spelling_next, spelling_end}
use Rattle.sb_problem.proofs.normals.Normals.letters.Goals as goal

pub loop-next-init : goal.loop-next-init
loop-next-init c =
    spelling_start c.args.table.now c.args.id c.new-letters.result.items c.in_ok-left.left.items c.requires.number
    c.requires.text c.new-letters.ensures.items c.in_ok-left.ensures.items

pub spell-requires : goal.spell-requires
spell-requires c =
    let next = spelling_next c.args.table.now c.args.id c.loop-next.letters.items c.loop-next.left.items
    c.pop.new.self.items c.in-Some.next c.loop-next.invariant c.in-Some.ensures.items in
    record { number = next.0; text = next.1; texts = c.requires.texts }

pub loop-next-preserved : goal.loop-next-preserved
loop-next-preserved c =
    c.in_ok-spell.ensures.spelling c.args.id
    (subst (Spelling c.args.table.now c.args.id c.loop-next.letters.items) c.in-Some.ensures.items
    c.loop-next.invariant)

pub loop-next-smaller : goal.loop-next-smaller
loop-next-smaller c =
    subst (λ is. weight_of (terms_at c.args.table.now c.spell.new.left.items) < weight_of (terms_at c.args.table.now is))
    (sym c.in-Some.ensures.items) c.in_ok-spell.ensures.lighter

pub returns : goal.returns
returns c = record {
  is = spelling_end c.args.table.now c.args.id c.loop-next.letters.items c.loop-next.left.items c.loop-next.invariant
      (none_left c.loop-next.left c.in_default.ensures.cases.0);
  written = c.loop-next.invariant.written;
}
