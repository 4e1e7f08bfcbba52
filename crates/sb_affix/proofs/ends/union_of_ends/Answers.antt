use Rattle.std.proofs.lemmas.Result.{IfOk-from_err}
use Rattle.sb_regex.proofs.CallerLemmas.{extends_more}
use Rattle.sb_affix.proofs.ends.union_of_ends.Goals as goal

pub returns-in_err-ends : goal.returns-in_err-ends
returns-in_err-ends c =
    let x = c.from_residual in
    record {
      ok = IfOk-from_err x.result _ x.ensures.0;
      extends = c.parts_of_ends.ensures.extends;
    }

pub alt-requires : goal.alt-requires
alt-requires c = rw c.deref.ensures.value c.in_ok-ends.ensures.numbers

pub returns : goal.returns
returns c =
    record {
      ok = rw (← c.in_ok-ends.ensures.value, ← c.deref.ensures.value) (c.alt.ensures.ok);
      extends = extends_more _ _ _ c.in_ok-ends.ensures.extends c.alt.ensures.extends;
    }
