use Rattle.std.proofs.Common.{◌++◌, ◌∷◌, [], subst}
use Rattle.sb_term.specs.Numbered.{term_at, terms_at}
use Rattle.sb_problem.proofs.CallerLemmas.{constant_found, constant_missed}
use Rattle.sb_fragment.specs.Ruled.{Meeting}
use Rattle.sb_fragment.proofs.RuledFacts.{ground_constants, lessens_without, meets_nothing, met_by}
use Rattle.sb_fragment.proofs.SideFacts.{measured_at}
use Rattle.sb_fragment.proofs.repeated.meet.Goals as goal

pub returns-then-measure : goal.returns-then-measure
returns-then-measure c =
    let measure = measured_at c.args.table.now c.args.measures.now c.args.next c.number.result _ c.requires.right
    c.number.ensures c.requires.reached in
    record {
      goes = λ whole h.
          meets_nothing whole (term_at c.args.table.now c.args.next) c.args.met.now.keys
          (terms_at c.args.table.now c.args.left.now.items)
          (ground_constants (term_at c.args.table.now c.args.next) _ measure.constants c.if-measure.true) h;
      lessens = lessens_without c.args.table.now c.args.next c.args.left.now.items;
    }

pub returns-in_ok-is_new-in-Some : goal.returns-in_ok-is_new-in-Some
returns-in_ok-is_new-in-Some c = record {
  goes = λ whole h.
      met_by whole c.in-Some.serial.0 c.args.met.now.keys c.insert.new.self.keys
      (terms_at c.args.table.now c.args.left.now.items) c.in_ok-is_new-in-Some.is_new
      c.in_ok-is_new-in-Some.ensures.added c.in_ok-is_new-in-Some.ensures.keys
      (subst (λ t. Meeting whole c.args.met.now.keys (terms_at c.args.table.now c.args.left.now.items ++ t ∷ []))
      (constant_found (term_at c.args.table.now c.args.next) c.constant_of.result c.in-Some.serial
      c.constant_of.ensures c.in-Some.is) h);
  lessens = lessens_without c.args.table.now c.args.next c.args.left.now.items;
}

pub meet_parts-requires : goal.meet_parts-requires
meet_parts-requires c = record {
  number = c.requires.number;
  constant = constant_missed (term_at c.args.table.now c.args.next) c.constant_of.result c.constant_of.ensures
      c.in-None.is;
}

pub returns-in_ok-meet_parts-in-None : goal.returns-in_ok-meet_parts-in-None
returns-in_ok-meet_parts-in-None c = record {
  goes = λ whole h. c.in_ok-meet_parts-in-None.ensures.meeting whole c.args.met.now.keys h;
  lessens = c.in_ok-meet_parts-in-None.ensures.lessens;
}
