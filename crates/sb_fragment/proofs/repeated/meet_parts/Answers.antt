use Rattle.std.proofs.Common.{sym, ◌∙◌}
use Rattle.sb_term.specs.Numbered.{term_at, terms_at}
use Rattle.sb_fragment.proofs.RuledFacts.{lessens_parts, lessens_without, meets_nothing, meets_parts, other_constants}
use Rattle.sb_fragment.proofs.repeated.meet_parts.Goals as goal

pub returns-then-not-is_joined : goal.returns-then-not-is_joined
returns-then-not-is_joined c = record {
  meeting = λ whole met h.
      meets_nothing whole (term_at c.args.table.now c.args.next) met
      (terms_at c.args.table.now c.args.left.now.items)
      (other_constants (term_at c.args.table.now c.args.next) c.requires.constant
      (sym c.is_joined.ensures ∙ c.if-not-is_joined.true)) h;
  lessens = lessens_without c.args.table.now c.args.next c.args.left.now.items;
}

pub returns : goal.returns
returns c = record {
  meeting = λ whole met h.
      meets_parts c.args.table.now whole c.args.next c.arguments_of.result.now met c.args.left.now.items
      c.extend_from_slice.new.self.items (sym c.is_joined.ensures ∙ c.if-not-is_joined.false)
      c.arguments_of.ensures.terms c.in_ok-extend_from_slice.ensures.items h;
  lessens = lessens_parts c.args.table.now c.args.next c.arguments_of.result.now c.args.left.now.items
      c.extend_from_slice.new.self.items c.arguments_of.ensures.terms c.arguments_of.ensures.below
      c.in_ok-extend_from_slice.ensures.items;
}
