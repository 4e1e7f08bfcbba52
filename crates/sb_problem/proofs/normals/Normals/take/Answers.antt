use Rattle.std.proofs.Common.{refl, subst}
use Rattle.sb_term.specs.Numbered.{term_at, terms_at}
use Rattle.sb_problem.specs.Known.{IsTextBy}
use Rattle.sb_problem.specs.Parts.{parts_in}
use Rattle.sb_problem.proofs.Keeping.{text_at}
use Rattle.sb_problem.proofs.Takings.{fewer_without}
use Rattle.sb_problem.proofs.normals.Normals.take.Goals as goal

pub take_word-requires : goal.take_word-requires
take_word-requires c =
    let t = subst (IsTextBy (term_at c.args.table.now c.args.next)) c.in-Some.is
    (text_at c.args.table.now c.args.self.now c.args.next c.kept.result c.count.result c.requires.texts
    c.requires.known c.kept.ensures c.count.ensures) in
    record { number = c.requires.number; texts = c.requires.texts; text = t.0; counted = t.1 }

pub returns-in_ok-goes-in-Some : goal.returns-in_ok-goes-in-Some
returns-in_ok-goes-in-Some c = record {
  goes = λ whole h.
      c.in_ok-goes-in-Some.ensures whole (parts_in c.args.parts.now.items) c.args.met.now.keys
      (terms_at c.args.table.now c.args.left.now.items) h;
  fewer = fewer_without c.args.table.now c.args.next c.args.left.now.items c.args.left.now.items refl;
}

pub take_other-requires : goal.take_other-requires
take_other-requires c = record {
  number = c.requires.number;
  other = subst (IsTextBy (term_at c.args.table.now c.args.next)) c.in-None.is
      (text_at c.args.table.now c.args.self.now c.args.next c.kept.result c.count.result c.requires.texts
      c.requires.known c.kept.ensures c.count.ensures);
}

pub returns-in_ok-goes-in-None : goal.returns-in_ok-goes-in-None
returns-in_ok-goes-in-None c =
    record { goes = c.in_ok-goes-in-None.ensures.goes; fewer = c.in_ok-goes-in-None.ensures.fewer }
