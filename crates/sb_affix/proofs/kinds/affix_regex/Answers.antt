use Rattle.sb_affix.proofs.EndFacts.{suffixes_made, factors_made}
use Rattle.sb_affix.proofs.kinds.affix_regex.Goals as goal

pub returns-in-Beginning : goal.returns-in-Beginning
returns-in-Beginning c =
    record { ok = rw c.in-Beginning.is (c.beginning.ensures.ok); extends = c.beginning.ensures.extends }

pub returns-in-Ending : goal.returns-in-Ending
returns-in-Ending c =
    record { ok = rw c.in-Ending.is (c.ending.ensures.ok); extends = c.ending.ensures.extends }

pub returns-in-Holder : goal.returns-in-Holder
returns-in-Holder c =
    record { ok = rw c.in-Holder.is (c.holder.ensures.ok); extends = c.holder.ensures.extends }

pub returns-in-Prefixes : goal.returns-in-Prefixes
returns-in-Prefixes c =
    record { ok = rw c.in-Prefixes.is (c.prefixes.ensures.ok); extends = c.prefixes.ensures.extends }

pub returns-in-Suffixes : goal.returns-in-Suffixes
returns-in-Suffixes c =
    record {
      ok = rw (c.in-Suffixes.is, ← suffixes_made c.args.codes.now) (c.union_of_ends.ensures.ok);
      extends = c.union_of_ends.ensures.extends;
    }

pub returns-in-Factors : goal.returns-in-Factors
returns-in-Factors c =
    record {
      ok = rw (c.in-Factors.is, ← factors_made c.args.codes.now) (c.union_of_ends-in-Factors.ensures.ok);
      extends = c.union_of_ends-in-Factors.ensures.extends;
    }
