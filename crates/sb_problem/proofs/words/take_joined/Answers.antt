use Rattle.std.proofs.Common.{refl, sym, ◌∙◌}
use Rattle.sb_term.specs.Numbered.{term_at, terms_at}
use Rattle.sb_problem.proofs.Takings.{fewer_parts, fewer_without, other_none, taken_none, taken_parts}
use Rattle.sb_problem.proofs.words.take_joined.Goals as goal

pub returns-then-not-is_joined : goal.returns-then-not-is_joined
returns-then-not-is_joined c = record {
  goes = λ whole parts run met h.
      taken_none whole (term_at c.args.table.now c.args.next) parts run met
      (terms_at c.args.table.now c.args.left.now.items) h
      (other_none (term_at c.args.table.now c.args.next) c.requires.other c.requires.constant
      (sym c.is_joined.ensures ∙ c.if-not-is_joined.true));
  fewer = fewer_without c.args.table.now c.args.next c.args.left.now.items c.args.left.now.items refl;
}

pub returns : goal.returns
returns c = record {
  goes = λ whole parts run met h.
      taken_parts c.args.table.now whole c.args.next parts run met c.args.left.now.items c.put_parts.new.left.items
      (sym c.is_joined.ensures ∙ c.if-not-is_joined.false) c.requires.other c.in_ok-put_parts.ensures h;
  fewer = fewer_parts c.args.table.now c.args.next c.args.left.now.items c.put_parts.new.left.items c.requires.number
      c.in_ok-put_parts.ensures;
}
