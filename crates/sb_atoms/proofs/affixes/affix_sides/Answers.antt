use Rattle.std.proofs.Common.{arith}
use Rattle.sb_facts.proofs.CallerLemmas.{ok_more}
use Rattle.sb_term.specs.Numbered.{term_at}
use Rattle.sb_atoms.specs.Affixes.{AreSides, IsMember}
use Rattle.sb_atoms.proofs.AffixFacts.{outside_none, member_from}
use Rattle.sb_atoms.proofs.affixes.affix_sides.Goals as goal

pub returns-in_default-clause-ok : goal.returns-in_default-clause-ok
returns-in_default-clause-ok c =
    let out = rw c.in_default.is at c.part_and_whole.ensures.parts in
    outside_none (term_at c.args.table.now c.args.id) c.args.kind c.requires.affix out

pub sides-requires : goal.sides-requires
sides-requires c =
    let smaller = rw c.in-Some.is at c.part_and_whole.ensures.smaller in record {
      part = omega (arith, smaller.0, c.requires.number);
      whole = omega (arith, smaller.1, c.requires.number);
      normals = c.requires.normals;
    }

pub returns-clause-ok : goal.returns-clause-ok
returns-clause-ok c =
    let ts = c.args.table.now in
    let t = term_at ts c.args.id in
    let a = term_at ts c.in-Some.pair.0 in
    let b = term_at ts c.in-Some.pair.1 in
    let is = rw c.in-Some.is at c.part_and_whole.ensures.parts in
    ok_more (AreSides ts c.sides.new.arena c.args.kind a b) (IsMember ts c.sides.new.arena c.args.kind t)
    c.sides.result (λ found h. member_from ts c.sides.new.arena c.args.kind t a b found is h) c.sides.ensures.ok
