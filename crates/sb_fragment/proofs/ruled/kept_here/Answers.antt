use Rattle.std.proofs.Common.{true, refl, sym, ◌∙◌, arith}
use Rattle.sb_term.specs.Numbered.{term_at, terms_at}
use Rattle.sb_fragment.specs.Ruled.{rule_in}
use Rattle.sb_fragment.specs.Shapes.{parts_of}
use Rattle.sb_fragment.specs.declared.ruled.Place.TheVariants as place
use Rattle.sb_fragment.proofs.RuledFacts.{kept_by, kept_found}
use Rattle.sb_fragment.proofs.ruled.kept_here.Goals as goal

pub returns-in-Nowhere : goal.returns-in-Nowhere
returns-in-Nowhere c = record {
  ok = kept_by (rule_in c.args.law) (term_at c.args.table.now c.args.id) place.Nowhere
      (parts_of (term_at c.args.table.now c.args.id)) true (sym c.in-Nowhere.is ∙ c.place_of.ensures) refl refl;
  right = c.requires.right;
}

pub keep_member-requires : goal.keep_member-requires
keep_member-requires c = record {
  numbers = λ k d l. omega (arith, c.arguments_of.ensures.below k d l, c.requires.number);
  right = c.requires.right;
}

pub returns-in-Membership : goal.returns-in-Membership
returns-in-Membership c = record {
  ok = kept_found (rule_in c.args.law) (term_at c.args.table.now c.args.id) place.Membership
      (terms_at c.args.table.now c.arguments_of.result.now) c.keep_member.result
      (sym c.in-Membership.is ∙ c.place_of.ensures) c.arguments_of.ensures.terms c.keep_member.ensures.ok;
  right = c.keep_member.ensures.right;
}

pub keep_words-requires : goal.keep_words-requires
keep_words-requires c = record {
  numbers = λ k d l. omega (arith, c.arguments_of-in-Words.ensures.below k d l, c.requires.number);
  right = c.requires.right;
}

pub returns-in-Words : goal.returns-in-Words
returns-in-Words c = record {
  ok = kept_found (rule_in c.args.law) (term_at c.args.table.now c.args.id) (place.Words c.in-Words.distinct)
      (terms_at c.args.table.now c.arguments_of-in-Words.result.now) c.keep_words.result
      (sym c.in-Words.is ∙ c.place_of.ensures) c.arguments_of-in-Words.ensures.terms c.keep_words.ensures.ok;
  right = c.keep_words.ensures.right;
}
