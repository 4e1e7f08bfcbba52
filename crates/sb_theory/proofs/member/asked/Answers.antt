use Rattle.sb_theory.proofs.Words.{◌∙◌, ap, option_and_then, sym, constant_of}
use Rattle.sb_theory.proofs.Rows.{none_about, none_wanted}
use Rattle.sb_theory.proofs.member.asked.Goals as goal

pub returns-in_default : goal.returns-in_default
returns-in_default c = record {
  some = tt;
  wanted = tt;
  none = none_about c.args.wanted.now c.args.atoms.now c.args.literal c.in_default.ensures.none;
}

pub returns-then-not-contains : goal.returns-then-not-contains
returns-then-not-contains c = record {
  some = tt;
  wanted = tt;
  none = none_wanted c.args.wanted.now c.args.atoms.now c.args.literal
      (sym c.contains.ensures ∙ c.if-not-contains.true);
}

pub returns : goal.returns
returns c = record {
  some = ap (option_and_then constant_of) c.in-Some.ensures.some;
  wanted = sym c.contains.ensures ∙ c.if-not-contains.false;
  none = tt;
}
