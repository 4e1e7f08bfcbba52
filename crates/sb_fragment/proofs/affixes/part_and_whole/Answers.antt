use Rattle.std.proofs.Common.{arith}
use Rattle.sb_meaning.specs.Terms as symbol
use Rattle.sb_term.specs.Numbered.{term_at}
use Rattle.sb_fragment.proofs.Structured.{others_unfit, two_applied}
use Rattle.sb_fragment.proofs.affixes.part_and_whole.Goals as goal
use Rattle.sb_fragment.proofs.affixes.part_and_whole.Goals.{in_default-via-then-arguments_of-lt2, in_default-via-else-arguments_of-lt2+else-this-lt3}

pub returns-in_default : goal.returns-in_default
returns-in_default c = record {
  parts = others_unfit c.args.table.now (term_at c.args.table.now c.args.id) c.args.kind c.arguments_of.result.now
      c.requires.affix c.arguments_of.ensures.terms (λ two. elim c.in_default.branch [
        | in_default-via-then-arguments_of-lt2 w ↦ grind arith
        | in_default-via-else-arguments_of-lt2+else-this-lt3 w ↦ grind arith
      ]);
  smaller = tt;
}

pub returns-in-Prefix : goal.returns-in-Prefix
returns-in-Prefix c = record {
  parts = rw c.in-Prefix.is
      (two_applied c.args.table.now (term_at c.args.table.now c.args.id) symbol.str_prefixof c.arguments_of.result.now
      c.first-item.result c.second-item.result (rw c.in-Prefix.is at c.requires.affix) c.arguments_of.ensures.terms
      (omega arith) (omega arith) c.first-item.is c.second-item.is);
  smaller = (
    omega (arith, c.first-item.is, c.arguments_of.ensures.below 0 c.first-item.result (omega arith)),
    omega (arith, c.second-item.is, c.arguments_of.ensures.below 1 c.second-item.result (omega arith)),
  );
}

pub returns-in-Suffix : goal.returns-in-Suffix
returns-in-Suffix c = record {
  parts = rw c.in-Suffix.is
      (two_applied c.args.table.now (term_at c.args.table.now c.args.id) symbol.str_suffixof c.arguments_of.result.now
      c.first-item.result c.second-item.result (rw c.in-Suffix.is at c.requires.affix) c.arguments_of.ensures.terms
      (omega arith) (omega arith) c.first-item.is c.second-item.is);
  smaller = (
    omega (arith, c.first-item.is, c.arguments_of.ensures.below 0 c.first-item.result (omega arith)),
    omega (arith, c.second-item.is, c.arguments_of.ensures.below 1 c.second-item.result (omega arith)),
  );
}

pub returns-in-Factor : goal.returns-in-Factor
returns-in-Factor c = record {
  parts = rw c.in-Factor.is
      (two_applied c.args.table.now (term_at c.args.table.now c.args.id) symbol.str_contains c.arguments_of.result.now
      c.first-item.result c.second-item.result (rw c.in-Factor.is at c.requires.affix) c.arguments_of.ensures.terms
      (omega arith) (omega arith) c.first-item.is c.second-item.is);
  smaller = (
    omega (arith, c.second-item.is, c.arguments_of.ensures.below 1 c.second-item.result (omega arith)),
    omega (arith, c.first-item.is, c.arguments_of.ensures.below 0 c.first-item.result (omega arith)),
  );
}
