use Rattle.std.proofs.lemmas.Result.{IfOk-from_err}
use Rattle.sb_regex.proofs.CallerLemmas.{extends_more, names_below, number_kept}
use Rattle.sb_affix.proofs.EndFacts.{beginning_made}
use Rattle.sb_affix.proofs.kinds.beginning.Goals as goal

pub returns-in_err-word : goal.returns-in_err-word
returns-in_err-word c =
    let x = c.from_residual in
    record {
      ok = IfOk-from_err x.result _ x.ensures.0;
      extends = c.characters.ensures.extends;
    }

pub returns-in_err-rest : goal.returns-in_err-rest
returns-in_err-rest c =
    let x = c.from_residual-in_err-rest in
    record {
      ok = IfOk-from_err x.result _ x.ensures.0;
      extends = extends_more _ _ _ c.in_ok-word.ensures.extends c.every_word.ensures.extends;
    }

pub cat-requires-clause-left : goal.cat-requires-clause-left
cat-requires-clause-left c =
    number_kept _ _ _ c.in_ok-rest.ensures.extends (names_below _ _ _ c.in_ok-word.ensures.ok)

pub cat-requires-clause-right : goal.cat-requires-clause-right
cat-requires-clause-right c = names_below _ _ _ c.in_ok-rest.ensures.ok

pub returns : goal.returns
returns c =
    record {
      ok = rw (← beginning_made c.characters.new.self c.every_word.new.arena c.in_ok-word.word c.in_ok-rest.rest
          c.args.codes.now c.in_ok-rest.ensures.extends c.in_ok-word.ensures.ok c.in_ok-rest.ensures.ok)
          (c.cat.ensures.ok);
      extends = extends_more _ _ _ (extends_more _ _ _ c.in_ok-word.ensures.extends c.in_ok-rest.ensures.extends)
          c.cat.ensures.extends;
    }
