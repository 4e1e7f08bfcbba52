use Rattle.std.proofs.Common.{rules, subst, sym}
use Rattle.clap.specs.Words.{IsPlainArg}
use Rattle.sb_words.proofs.checker.needed.Goals as goal

pub returns : goal.returns
returns c = record {
  name = search rules;
  rule = search rules;
  plain = subst IsPlainArg (sym c.help.ensures) (subst IsPlainArg (sym c.required.ensures)
      (subst IsPlainArg (sym c.action.ensures) (subst IsPlainArg (sym c.value_name.ensures) c.new.ensures.plain)));
  own = search rules;
  value = (search rules, search rules, search rules, search rules);
}
