use Rattle.std.proofs.lemmas.Result.{IfOk-from_err}
use Rattle.sb_regex.proofs.CallerLemmas.{extends_more, names_below}
use Rattle.sb_affix.proofs.EndFacts.{not_none}
use Rattle.sb_affix.proofs.kinds.every_word.Goals as goal

pub returns-in_err-none : goal.returns-in_err-none
returns-in_err-none c =
    let x = c.from_residual in
    record {
      ok = IfOk-from_err x.result _ x.ensures.0;
      extends = c.none.ensures.extends;
    }

pub not-requires : goal.not-requires
not-requires c = names_below _ _ _ c.in_ok-none.ensures.ok

pub returns : goal.returns
returns c =
    record {
      ok = rw (← not_none c.none.new.self c.in_ok-none.none c.in_ok-none.ensures.ok) (c.not.ensures.ok);
      extends = extends_more _ _ _ c.in_ok-none.ensures.extends c.not.ensures.extends;
    }
