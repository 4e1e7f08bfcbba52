use Rattle.std.proofs.Common.{◌<◌, ◌-◌, length, get_or, refl, arith}
use Rattle.std.proofs.lemmas.List.{get_or_default}
use Rattle.std.proofs.lemmas.Result.{IfOk-from_err}
use Rattle.sb_regex.proofs.CallerLemmas.{extends_more, names_below}
use Rattle.sb_affix.proofs.EndFacts.{none_made, one_made, all_made, character_at}
use Rattle.sb_affix.proofs.ends.parts_of_ends.Goals as goal

pub returns-in_err-last : goal.returns-in_err-last
returns-in_err-last c =
    let x = c.from_residual in
    record {
      value = IfOk-from_err x.result _ x.ensures.0;
      numbers = IfOk-from_err x.result _ x.ensures.0;
      extends = c.eps.ensures.extends;
    }

pub returns-in_err-ends : goal.returns-in_err-ends
returns-in_err-ends c =
    let x = c.from_residual-in_err-ends in
    record {
      value = IfOk-from_err x.result _ x.ensures.0;
      numbers = IfOk-from_err x.result _ x.ensures.0;
      extends = c.in_ok-last.ensures.extends;
    }

pub loop-left-init : goal.loop-left-init
loop-left-init c =
    none_made c.args.part c.args.codes.now _ c.args.arena.now c.eps.new.self c.in_ok-last.last c.in_ok-ends.ends.items
    refl c.in_ok-last.ensures.extends c.in_ok-last.ensures.ok c.in_ok-ends.ensures.items

pub in_front-requires-clause-character : goal.in_front-requires-clause-character
in_front-requires-clause-character c =
    let i : c.loop-left.left - 1 < length c.args.codes.now =
    omega (arith, c.loop-left.invariant.place, c.loop-left-test.true) in
    character_at c.args.codes.now (c.loop-left.left - 1) (get_or c.args.codes.now (c.loop-left.left - 1) 0) c.requires i
    (get_or_default c.args.codes.now (c.loop-left.left - 1) 0 _ i)

pub in_front-requires-clause-rest : goal.in_front-requires-clause-rest
in_front-requires-clause-rest c = names_below _ _ _ c.loop-left.invariant.named

pub returns-in_err-last-2 : goal.returns-in_err-last-2
returns-in_err-last-2 c =
    let x = c.from_residual-in_err-last-2 in
    record {
      value = IfOk-from_err x.result _ x.ensures.0;
      numbers = IfOk-from_err x.result _ x.ensures.0;
      extends = extends_more _ _ _ c.loop-left.invariant.extends c.in_front.ensures.extends;
    }

pub returns-in_err-push : goal.returns-in_err-push
returns-in_err-push c =
    let x = c.from_residual-in_err-push in
    record {
      value = IfOk-from_err x.result _ x.ensures.0;
      numbers = IfOk-from_err x.result _ x.ensures.0;
      extends = extends_more _ _ _ c.loop-left.invariant.extends c.in_ok-last-2.ensures.extends;
    }

pub loop-left-preserved : goal.loop-left-preserved
loop-left-preserved c =
    let i : c.loop-left.left - 1 < length c.args.codes.now =
    omega (arith, c.loop-left.invariant.place, c.loop-left-test.true) in
    one_made c.args.part c.args.codes.now c.loop-left.left (c.loop-left.left - 1) c.args.arena.now c.loop-left.arena
    c.in_front.new.arena c.loop-left.last (get_or c.args.codes.now (c.loop-left.left - 1) 0) c.in_ok-last-2.last
    c.loop-left.ends.items c.push.new.self.items (omega (arith, c.loop-left-test.true)) i
    (get_or_default c.args.codes.now (c.loop-left.left - 1) 0 _ i) c.loop-left.invariant c.in_ok-last-2.ensures.extends
    c.in_ok-last-2.ensures.ok c.in_ok-push.ensures.items

pub returns : goal.returns
returns c =
    let all = all_made c.args.part c.args.codes.now c.loop-left.left c.args.arena.now c.loop-left.arena c.loop-left.last
    c.loop-left.ends.items c.reverse.new.self.items (omega (arith, c.loop-left-test.false)) c.loop-left.invariant
    c.reverse.ensures.items in
    record { value = all.0; numbers = all.1; extends = c.loop-left.invariant.extends }
