use Rattle.std.proofs.Common.{◌<◌, length, refl}
use Rattle.std.proofs.lemmas.List.Elements.{All-nil}
use Rattle.std.proofs.lemmas.Result.{IfOk-from_err}
use Rattle.sb_regex.proofs.CallerLemmas.{extends_more, number_in, number_kept, numbers_kept, extends_same}
use Rattle.sb_members.proofs.Splits.{rows_more, rows_done}
use Rattle.sb_members.proofs.divide.cross.Goals as goal

pub cross_one-requires : goal.cross_one-requires
cross_one-requires c =
    let i = c.loop-row.invariant in
    let x = number_in c.args.arena.now c.args.rows.now c.loop-row.row-index c.row-item.result c.requires.rows
    c.loop-row-test.true c.row-item.is in
    record {
      all = i.known;
      row = number_kept c.args.arena.now c.loop-row.arena c.row-item.result i.extends x;
      choices = numbers_kept c.args.arena.now c.loop-row.arena c.args.choices.now i.extends c.requires.choices;
    }

pub returns-in_err-cross_one : goal.returns-in_err-cross_one
returns-in_err-cross_one c =
    let x = c.from_residual in
    record {
      known = IfOk-from_err x.result _ x.ensures.0;
      both = IfOk-from_err x.result _ x.ensures.0;
      extends = extends_more c.args.arena.now c.loop-row.arena c.cross_one.new.arena c.loop-row.invariant.extends
          c.in_err-cross_one.ensures.extends;
    }

pub loop-row-preserved : goal.loop-row-preserved
loop-row-preserved c =
    let i = c.loop-row.invariant in
    let e = c.in_ok-cross_one.ensures in
    let start = c.args.arena.now in
    record {
      extends = extends_more start c.loop-row.arena c.cross_one.new.arena i.extends e.extends;
      known = e.known;
      both = λ u. rows_more start c.loop-row.arena c.cross_one.new.arena i.extends c.args.rows.now c.args.choices.now
          c.loop-row.all.items c.cross_one.new.all.items c.loop-row.row-index c.row-item.result c.loop-row-test.true
          c.row-item.is c.requires.rows c.requires.choices u (e.both u) (i.both u);
    }

pub returns : goal.returns
returns c =
    let i = c.loop-row.invariant in
    record {
      known = i.known;
      both = λ u. rows_done c.args.arena.now c.loop-row.arena c.args.rows.now c.args.choices.now c.loop-row.all.items
          c.loop-row.row-index c.loop-row-test.false u (i.both u);
      extends = i.extends;
    }

pub loop-row-init : goal.loop-row-init
loop-row-init c =
    record {
      extends = extends_same c.args.arena.now;
      known = rw (c.new-all.ensures.items) (All-nil (λ i. i < length c.args.arena.now));
      both = λ u. rw (c.new-all.ensures.items) refl;
    }
