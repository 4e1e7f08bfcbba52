use Rattle.std.proofs.Common.{◌&&◌, ap₂, sym, subst, ◌∙◌}
use Rattle.std.proofs.lemmas.Result.{IfOk-from_err}
use Rattle.sb_regex.specs.Numbered.{AllNumbers}
use Rattle.sb_regex.proofs.CallerLemmas.{extends_more, extends_same, number_in, number_kept}
use Rattle.sb_members.specs.Members.{in_some}
use Rattle.sb_members.proofs.Splits.{unions_start, unions_known, unions_more, unions_done}
use Rattle.sb_members.proofs.divide.cross_all.Goals as goal

pub loop-part-init : goal.loop-part-init
loop-part-init c = record {
  extends = extends_same c.args.arena.now;
  known = unions_known c.args.arena.now c.args.first c.in_ok-rows.rows.items c.requires.first
      c.in_ok-rows.ensures.items;
  both = λ u. unions_start c.args.arena.now c.args.first c.args.unions.now c.in_ok-rows.rows.items
      c.in_ok-rows.ensures.items u;
}

pub returns-in_err-rows : goal.returns-in_err-rows
returns-in_err-rows c =
    let x = c.from_residual in
    record {
      known = IfOk-from_err x.result _ x.ensures.0;
      both = IfOk-from_err x.result _ x.ensures.0;
      extends = extends_same c.args.arena.now;
    }

pub members_of-requires : goal.members_of-requires
members_of-requires c =
    number_kept c.args.arena.now c.loop-part.arena c.part-item.result c.loop-part.invariant.extends
    (number_in c.args.arena.now c.args.unions.now c.loop-part.part-index c.part-item.result c.requires.unions
    c.loop-part-test.true c.part-item.is)

pub returns-in_err-choices : goal.returns-in_err-choices
returns-in_err-choices c =
    let x = c.from_residual-in_err-choices in
    record {
      known = IfOk-from_err x.result _ x.ensures.0;
      both = IfOk-from_err x.result _ x.ensures.0;
      extends = c.loop-part.invariant.extends;
    }

pub cross-requires : goal.cross-requires
cross-requires c = record {
  rows = subst (AllNumbers c.loop-part.arena) (sym c.deref.ensures.value) c.loop-part.invariant.known;
  choices = subst (AllNumbers c.loop-part.arena) (sym c.deref-in-loop-part.ensures.value) c.in_ok-choices.ensures.known;
}

pub returns-in_err-next : goal.returns-in_err-next
returns-in_err-next c =
    let x = c.from_residual-in_err-next in
    record {
      known = IfOk-from_err x.result _ x.ensures.0;
      both = IfOk-from_err x.result _ x.ensures.0;
      extends = extends_more c.args.arena.now c.loop-part.arena c.cross.new.arena c.loop-part.invariant.extends
          c.in_err-next.ensures.extends;
    }

pub loop-part-preserved : goal.loop-part-preserved
loop-part-preserved c =
    let i = c.loop-part.invariant in
    let e = c.in_ok-next.ensures in
    let start = c.args.arena.now in
    let old = c.loop-part.arena in
    let new = c.cross.new.arena in
    record {
      extends = extends_more start old new i.extends e.extends;
      known = e.known;
      both = λ u. unions_more start old new i.extends c.args.unions.now c.loop-part.rows.items
          c.in_ok-next.next.items c.in_ok-choices.choices.items c.loop-part.part-index c.part-item.result
          c.loop-part-test.true c.part-item.is c.requires.unions c.in_ok-choices.ensures u _
          (e.both u
          ∙ ap₂ (λ xs ys. in_some old xs u && in_some old ys u) c.deref.ensures.value
          c.deref-in-loop-part.ensures.value)
          (i.both u);
    }

pub returns : goal.returns
returns c =
    let i = c.loop-part.invariant in
    record {
      known = i.known;
      both = λ u. unions_done c.args.arena.now c.loop-part.arena c.args.unions.now c.loop-part.rows.items
          c.loop-part.part-index c.loop-part-test.false u _ (i.both u);
      extends = i.extends;
    }
