use Rattle.std.proofs.Common.{length, refl}
use Rattle.std.proofs.lemmas.Result.{IfOk-from_err}
use Rattle.sb_regex.proofs.CallerLemmas.{extends_same, extends_more, number_in, number_kept, numbers_kept, names_below, two_numbers}
use Rattle.sb_members.proofs.Splits.{cross_more, cross_done, numbers_push}
use Rattle.sb_members.proofs.divide.cross_one.Goals as goal

pub loop-choice-init : goal.loop-choice-init
loop-choice-init c =
    record { extends = extends_same c.args.arena.now; known = c.requires.all; both = λ u. refl }

pub and-requires : goal.and-requires
and-requires c =
    let i = c.loop-choice.invariant in
    let x = number_in c.args.arena.now c.args.choices.now c.loop-choice.choice-index c.choice-item.result
    c.requires.choices c.loop-choice-test.true c.choice-item.is in
    two_numbers (length c.loop-choice.arena) c.args.row c.choice-item.result
    (number_kept c.args.arena.now c.loop-choice.arena c.args.row i.extends c.requires.row)
    (number_kept c.args.arena.now c.loop-choice.arena c.choice-item.result i.extends x)

pub returns-in_err-both : goal.returns-in_err-both
returns-in_err-both c =
    let x = c.from_residual in
    record {
      known = IfOk-from_err x.result _ x.ensures.0;
      both = IfOk-from_err x.result _ x.ensures.0;
      extends = extends_more c.args.arena.now c.loop-choice.arena c.and.new.self c.loop-choice.invariant.extends
          c.in_err-both.ensures.extends;
    }

pub returns-in_err-push : goal.returns-in_err-push
returns-in_err-push c =
    let x = c.from_residual-in_err-push in
    record {
      known = IfOk-from_err x.result _ x.ensures.0;
      both = IfOk-from_err x.result _ x.ensures.0;
      extends = extends_more c.args.arena.now c.loop-choice.arena c.and.new.self c.loop-choice.invariant.extends
          c.in_ok-both.ensures.extends;
    }

pub loop-choice-preserved : goal.loop-choice-preserved
loop-choice-preserved c =
    let i = c.loop-choice.invariant in
    let e = c.in_ok-both.ensures in
    let start = c.args.arena.now in
    let old = c.loop-choice.arena in
    let new = c.and.new.self in
    record {
      extends = extends_more start old new i.extends e.extends;
      known = numbers_push new c.loop-choice.all.items c.push.new.self.items c.in_ok-both.both
          (numbers_kept old new c.loop-choice.all.items e.extends i.known)
          (names_below new c.in_ok-both.both _ e.ok) c.in_ok-push.ensures.items;
      both = λ u. cross_more c.mkand_keeps_language.ensures c.intersection_is_of_each.ensures start old new i.extends
          e.extends c.args.row c.requires.row c.args.choices.now c.requires.choices c.loop-choice.all.items
          c.push.new.self.items c.args.all.now.items c.loop-choice.choice-index c.choice-item.result c.in_ok-both.both
          c.loop-choice-test.true c.choice-item.is e.ok i.known c.in_ok-push.ensures.items u (i.both u);
    }

pub returns : goal.returns
returns c =
    let i = c.loop-choice.invariant in
    record {
      known = i.known;
      both = λ u. cross_done c.args.arena.now c.loop-choice.arena c.args.row c.args.choices.now c.loop-choice.all.items
          c.args.all.now.items c.loop-choice.choice-index c.loop-choice-test.false u (i.both u);
      extends = i.extends;
    }
