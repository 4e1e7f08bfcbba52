use Rattle.std.proofs.lemmas.Result.{IfOk-from_err}
use Rattle.std.proofs.Common.{◌&&◌, ap₂, refl}
use Rattle.sb_regex.proofs.CallerLemmas.{extends_more, names_below, number_kept}
use Rattle.sb_affix.proofs.EndFacts.{character_in_front, or_empty_whole}
use Rattle.sb_affix.proofs.ends.in_front.Goals as goal

pub characters-requires : goal.characters-requires
characters-requires c = ap₂ ◌&&◌ c.requires.character refl

pub returns-in_err-character : goal.returns-in_err-character
returns-in_err-character c =
    let x = c.from_residual in
    record {
      ok = IfOk-from_err x.result _ x.ensures.0;
      extends = c.characters.ensures.extends;
    }

pub cat-requires-clause-left : goal.cat-requires-clause-left
cat-requires-clause-left c = names_below _ _ _ c.in_ok-character.ensures.ok

pub cat-requires-clause-right : goal.cat-requires-clause-right
cat-requires-clause-right c = number_kept _ _ _ c.in_ok-character.ensures.extends c.requires.rest

pub returns-in_err-whole : goal.returns-in_err-whole
returns-in_err-whole c =
    let x = c.from_residual-in_err-whole in
    record {
      ok = IfOk-from_err x.result _ x.ensures.0;
      extends = extends_more _ _ _ c.in_ok-character.ensures.extends c.cat.ensures.extends;
    }

pub or_empty_word-requires : goal.or_empty_word-requires
or_empty_word-requires c = names_below _ _ _ c.in_ok-whole.ensures.ok

pub returns-in-Whole : goal.returns-in-Whole
returns-in-Whole c =
    record {
      ok = rw c.in-Whole.is (character_in_front c.args.arena.now c.characters.new.self c.cat.new.self c.args.code
          c.args.rest c.in_ok-character.character c.in_ok-whole.whole c.in_ok-character.ensures.extends c.requires.rest
          c.in_ok-character.ensures.ok c.in_ok-whole.ensures.ok);
      extends = extends_more _ _ _ c.in_ok-character.ensures.extends c.in_ok-whole.ensures.extends;
    }

pub returns-in-Prefix : goal.returns-in-Prefix
returns-in-Prefix c =
    let made = character_in_front c.args.arena.now c.characters.new.self c.cat.new.self c.args.code c.args.rest
    c.in_ok-character.character c.in_ok-whole.whole c.in_ok-character.ensures.extends c.requires.rest
    c.in_ok-character.ensures.ok c.in_ok-whole.ensures.ok in
    record {
      ok = rw (c.in-Prefix.is, ← or_empty_whole c.cat.new.self c.in_ok-whole.whole _ made) (c.or_empty_word.ensures.ok);
      extends = extends_more _ _ _ (extends_more _ _ _ c.in_ok-character.ensures.extends c.in_ok-whole.ensures.extends)
          c.or_empty_word.ensures.extends;
    }
