use Rattle.std.proofs.Common.{◌<◌, ◌-◌, length, get_or, refl, arith}
use Rattle.std.proofs.lemmas.List.{get_or_default}
use Rattle.std.proofs.lemmas.Result.{IfOk-from_err}
use Rattle.sb_regex.proofs.CallerLemmas.{extends_more, names_below, number_kept}
use Rattle.sb_regex.proofs.Words.{word_start, word_more, word_end, normal_character}
use Rattle.sb_regex.proofs.arena.Arena.characters.Goals as goal

pub loop-left-init : goal.loop-left-init
loop-left-init c = (
  omega arith,
  c.in_ok-whole.ensures.extends,
  names_below _ _ _ c.in_ok-whole.ensures.ok,
  word_start c.eps.new.self c.args.codes.now _ _ refl c.in_ok-whole.ensures.ok,
)

pub intern-requires-clause-normal : goal.intern-requires-clause-normal
intern-requires-clause-normal c =
    let i : c.loop-left.left - 1 < length c.args.codes.now =
    omega (arith, c.loop-left.invariant.0, c.loop-left-test.true) in
    let n = normal_character c.constructors_give_normal.ensures c.args.codes.now c.args.codes.now
    (c.loop-left.left - 1) (get_or c.args.codes.now (c.loop-left.left - 1) 0) c.requires
    refl i (get_or_default c.args.codes.now (c.loop-left.left - 1) 0 _ i) in
    rw (c.in_ok-ranges.ensures.items) n

pub cat-requires-clause-left : goal.cat-requires-clause-left
cat-requires-clause-left c = names_below _ _ _ c.in_ok-character.ensures.ok

pub loop-left-preserved : goal.loop-left-preserved
loop-left-preserved c =
    let i : c.loop-left.left - 1 < length c.args.codes.now =
    omega (arith, c.loop-left.invariant.0, c.loop-left-test.true) in
    let named = rw (c.in_ok-ranges.ensures.items) at c.in_ok-character.ensures.ok in (
      omega (arith, c.loop-left.invariant.0),
      extends_more _ _ _ (extends_more _ _ _ c.loop-left.invariant.1 c.in_ok-character.ensures.extends)
          c.in_ok-whole-2.ensures.extends,
      names_below _ _ _ c.in_ok-whole-2.ensures.ok,
      word_more c.loop-left.self c.intern.new.self c.cat.new.self c.args.codes.now c.loop-left.left
          (c.loop-left.left - 1) (get_or c.args.codes.now (c.loop-left.left - 1) 0) c.loop-left.whole
          c.in_ok-character.character c.in_ok-whole-2.whole
          (omega (arith, c.loop-left-test.true)) i
          (get_or_default c.args.codes.now (c.loop-left.left - 1) 0 _ i) c.loop-left.invariant.2
          c.in_ok-character.ensures.extends c.loop-left.invariant.3 named c.in_ok-whole-2.ensures.ok,
    )

pub returns : goal.returns
returns c =
    record {
      ok = (word_end c.loop-left.self c.args.codes.now c.loop-left.left c.loop-left.whole
          (omega (arith, c.loop-left-test.false)) c.loop-left.invariant.2 c.loop-left.invariant.3);
      extends = c.loop-left.invariant.1;
    }

pub returns-in_err-whole : goal.returns-in_err-whole
returns-in_err-whole c =
    let x = c.from_residual in
    record {
      ok = IfOk-from_err x.result _ x.ensures.0;
      extends = c.eps.ensures.extends;
    }

pub returns-in_err-ranges : goal.returns-in_err-ranges
returns-in_err-ranges c =
    let x = c.from_residual-in_err-ranges in
    record {
      ok = IfOk-from_err x.result _ x.ensures.0;
      extends = c.loop-left.invariant.1;
    }

pub returns-in_err-character : goal.returns-in_err-character
returns-in_err-character c =
    let x = c.from_residual-in_err-character in
    record {
      ok = IfOk-from_err x.result _ x.ensures.0;
      extends = extends_more _ _ _ c.loop-left.invariant.1 c.intern.ensures.extends;
    }

pub returns-in_err-whole-2 : goal.returns-in_err-whole-2
returns-in_err-whole-2 c =
    let x = c.from_residual-in_err-whole-2 in
    record {
      ok = IfOk-from_err x.result _ x.ensures.0;
      extends = extends_more _ _ _ (extends_more _ _ _ c.loop-left.invariant.1 c.intern.ensures.extends)
          c.cat.ensures.extends;
    }

pub cat-requires-clause-right : goal.cat-requires-clause-right
cat-requires-clause-right c =
    number_kept c.loop-left.self c.intern.new.self c.loop-left.whole c.in_ok-character.ensures.extends
    c.loop-left.invariant.2
