use Rattle.std.proofs.Common.{arith}
use Rattle.sb_term.specs.Numbered.{term_at, terms_at}
use Rattle.sb_problem.specs.Patterns.{pattern_in}
use Rattle.sb_fragment.proofs.FittingFacts.{asked_fit, constant_fit, always_fit, alone_fit, connected_fit, words_fit, other_fit}
use Rattle.sb_fragment.proofs.fitting.fit_of.Goals as goal

pub fit_pattern-requires : goal.fit_pattern-requires
fit_pattern-requires c = omega (arith, c.in-Some.ensures.smaller, c.requires.reached)

pub fit_member-requires : goal.fit_member-requires
fit_member-requires c = record {
  number = c.requires.number;
  reached = c.requires.reached;
  right = c.requires.right;
  member = rw c.in-Member.is at c.shape_of.ensures;
}

pub fit_words-requires : goal.fit_words-requires
fit_words-requires c = record {
  numbers = λ k d l. omega (arith, c.arguments_of.ensures.below k d l, c.requires.reached);
  right = c.requires.right;
}

pub fit_affix-requires : goal.fit_affix-requires
fit_affix-requires c = record {
  number = c.requires.number;
  reached = c.requires.reached;
  right = c.requires.right;
  affix = rw c.in-Affix.is at c.shape_of.ensures;
}

pub returns-in-Some : goal.returns-in-Some
returns-in-Some c =
    asked_fit (term_at c.args.table.now c.args.id) c.in-Some.field-0-0.0
    (pattern_in c.args.table.now c.in-Some.pattern) c.fit_pattern.result c.in-Some.ensures.parts
    (c.fit_pattern.ensures c.args.table.now c.requires.right)

pub returns-in-Constant : goal.returns-in-Constant
returns-in-Constant c =
    constant_fit (term_at c.args.table.now c.args.id) c.in-Constant.field-0.0 c.in-Constant.ensures

pub returns-in-Always : goal.returns-in-Always
returns-in-Always c =
    always_fit (term_at c.args.table.now c.args.id) _ c.args.parts (rw c.in-Always.is at c.shape_of.ensures)
    c.requires.each

pub returns-in-Alone : goal.returns-in-Alone
returns-in-Alone c =
    alone_fit (term_at c.args.table.now c.args.id) c.args.parts (rw c.in-Alone.is at c.shape_of.ensures) c.requires.each

pub returns-in-Connected : goal.returns-in-Connected
returns-in-Connected c =
    connected_fit (term_at c.args.table.now c.args.id) _ c.args.parts (rw c.in-Connected.is at c.shape_of.ensures)
    c.requires.each

pub returns-in_ok-fits-in-Words : goal.returns-in_ok-fits-in-Words
returns-in_ok-fits-in-Words c =
    words_fit (term_at c.args.table.now c.args.id) c.in-Words.distinct
    (terms_at c.args.table.now c.arguments_of.result.now) c.in_ok-fits-in-Words.fits
    (rw c.in-Words.is at c.shape_of.ensures) c.arguments_of.ensures.terms c.in_ok-fits-in-Words.ensures

pub returns-in-Other : goal.returns-in-Other
returns-in-Other c = other_fit (term_at c.args.table.now c.args.id) (rw c.in-Other.is at c.shape_of.ensures)
