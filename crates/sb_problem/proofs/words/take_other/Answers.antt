use Rattle.std.proofs.Common.{◌++◌, ◌∷◌, [], refl, subst}
use Rattle.sb_term.specs.Numbered.{term_at, terms_at}
use Rattle.sb_problem.specs.Parts.{parts_in}
use Rattle.sb_problem.specs.Taking.{Taking}
use Rattle.sb_problem.proofs.Takings.{constant_found, constant_missed, fewer_without}
use Rattle.sb_problem.proofs.words.take_other.Goals as goal

pub returns-in_ok-goes-in-Some : goal.returns-in_ok-goes-in-Some
returns-in_ok-goes-in-Some c = record {
  goes = λ whole h.
      c.in_ok-goes-in-Some.ensures whole (terms_at c.args.table.now c.args.left.now.items)
      (subst (λ t. Taking whole (parts_in c.args.parts.now.items) c.args.run.now.items c.args.met.now.keys
      (terms_at c.args.table.now c.args.left.now.items ++ t ∷ []))
      (constant_found (term_at c.args.table.now c.args.next) c.constant_of.result c.in-Some.serial c.constant_of.ensures
      c.in-Some.is) h);
  fewer = fewer_without c.args.table.now c.args.next c.args.left.now.items c.args.left.now.items refl;
}

pub take_joined-requires : goal.take_joined-requires
take_joined-requires c = record {
  number = c.requires.number;
  other = c.requires.other;
  constant = constant_missed (term_at c.args.table.now c.args.next) c.constant_of.result c.constant_of.ensures
      c.in-None.is;
}

pub returns-in_ok-goes-in-None : goal.returns-in_ok-goes-in-None
returns-in_ok-goes-in-None c =
    let e = c.in_ok-goes-in-None.ensures in
    record {
      goes = λ whole h.
          e.goes whole (parts_in c.args.parts.now.items) c.args.run.now.items c.args.met.now.keys h;
      fewer = e.fewer;
    }
