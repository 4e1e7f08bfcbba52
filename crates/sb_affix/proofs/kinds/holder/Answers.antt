use Rattle.std.proofs.lemmas.Result.{IfOk-from_err}
use Rattle.sb_regex.proofs.CallerLemmas.{extends_more, names_below, number_kept}
use Rattle.sb_affix.proofs.EndFacts.{containing_made}
use Rattle.sb_affix.proofs.kinds.holder.Goals as goal

pub returns-in_err-word : goal.returns-in_err-word
returns-in_err-word c =
    let x = c.from_residual in
    record {
      ok = IfOk-from_err x.result _ x.ensures.0;
      extends = c.beginning.ensures.extends;
    }

pub returns-in_err-front : goal.returns-in_err-front
returns-in_err-front c =
    let x = c.from_residual-in_err-front in
    record {
      ok = IfOk-from_err x.result _ x.ensures.0;
      extends = extends_more _ _ _ c.in_ok-word.ensures.extends c.every_word.ensures.extends;
    }

pub cat-requires-clause-left : goal.cat-requires-clause-left
cat-requires-clause-left c = names_below _ _ _ c.in_ok-front.ensures.ok

pub cat-requires-clause-right : goal.cat-requires-clause-right
cat-requires-clause-right c =
    number_kept _ _ _ c.in_ok-front.ensures.extends (names_below _ _ _ c.in_ok-word.ensures.ok)

pub returns : goal.returns
returns c =
    record {
      ok = rw (← containing_made c.beginning.new.arena c.every_word.new.arena c.in_ok-word.word c.in_ok-front.front
          c.args.codes.now c.in_ok-front.ensures.extends c.in_ok-word.ensures.ok c.in_ok-front.ensures.ok)
          (c.cat.ensures.ok);
      extends = extends_more _ _ _ (extends_more _ _ _ c.in_ok-word.ensures.extends c.in_ok-front.ensures.extends)
          c.cat.ensures.extends;
    }
