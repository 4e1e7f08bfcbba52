use Rattle.std.proofs.lemmas.Result.{IfOk-from_err}
use Rattle.std.proofs.Common.{length}
use Rattle.sb_regex.proofs.CallerLemmas.{extends_more, names_below, number_kept, two_numbers}
use Rattle.sb_affix.proofs.EndFacts.{or_empty_made}
use Rattle.sb_affix.proofs.ends.or_empty_word.Goals as goal

pub returns-in_err-empty : goal.returns-in_err-empty
returns-in_err-empty c =
    let x = c.from_residual in
    record {
      ok = IfOk-from_err x.result _ x.ensures.0;
      extends = c.eps.ensures.extends;
    }

pub alt-requires : goal.alt-requires
alt-requires c =
    two_numbers (length c.eps.new.self) c.in_ok-empty.empty c.args.regex (names_below _ _ _ c.in_ok-empty.ensures.ok)
    (number_kept _ _ _ c.in_ok-empty.ensures.extends c.requires)

pub returns : goal.returns
returns c =
    record {
      ok = rw (← or_empty_made c.args.arena.now c.eps.new.self c.args.regex c.in_ok-empty.empty
          c.in_ok-empty.ensures.extends c.requires c.in_ok-empty.ensures.ok)
          (c.alt.ensures.ok);
      extends = extends_more _ _ _ c.in_ok-empty.ensures.extends c.alt.ensures.extends;
    }
