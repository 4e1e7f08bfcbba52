use Rattle.std.proofs.Common.{refl, sym, ◌∙◌, arith}
use Rattle.sb_term.specs.Numbered.{term_at, terms_at}
use Rattle.sb_fragment.specs.declared.ruled.Place.TheVariants as place
use Rattle.sb_fragment.proofs.RuledFacts.{parts_left}
use Rattle.sb_fragment.proofs.ruled.ruled_parts.Goals as goal

pub returns-in-Nowhere : goal.returns-in-Nowhere
returns-in-Nowhere c = record {
  terms = parts_left (term_at c.args.table.now c.args.id) place.Nowhere
      (terms_at c.args.table.now c.arguments_of.result.now) (sym c.in-Nowhere.is ∙ c.place_of.ensures)
      c.arguments_of.ensures.terms;
  below = c.arguments_of.ensures.below;
}

pub returns-in-Membership : goal.returns-in-Membership
returns-in-Membership c = record {
  terms = parts_left (term_at c.args.table.now c.args.id) place.Membership _
      (sym c.in-Membership.is ∙ c.place_of.ensures) refl;
  below = λ k d l. absurd (omega (arith, l));
}

pub returns-in-Words : goal.returns-in-Words
returns-in-Words c = record {
  terms = parts_left (term_at c.args.table.now c.args.id) (place.Words c.in-Words.field-0) _
      (sym c.in-Words.is ∙ c.place_of.ensures) refl;
  below = λ k d l. absurd (omega (arith, l));
}
