use Rattle.std.proofs.Common.{ℕ, ◌<◌, length, sym, subst}
use Rattle.std.proofs.lemmas.Result.{IfOk-from_err}
use Rattle.sb_members.proofs.Stronger.{going_start, going_next, going_done}
use Rattle.sb_members.proofs.needed.take_all.Goals as goal

pub loop-row-init : goal.loop-row-init
loop-row-init c =
    going_start c.args.arena.now c.args.rows.now c.args.kept.now.items c.args.weaker.now.keys c.requires.kept
    c.requires.weaker

pub take-requires : goal.take-requires
take-requires c =
    subst (λ (row : ℕ × ℕ). row.1 < length c.args.arena.now) (sym c.row-item.is)
    (c.requires.rows c.loop-row.row-index c.row-item.result c.loop-row-test.true)

pub returns-in_err-left : goal.returns-in_err-left
returns-in_err-left c =
    let e = c.from_residual.ensures.0 in
    record { known = IfOk-from_err c.from_residual.result _ e; same = IfOk-from_err c.from_residual.result _ e }

pub loop-row-preserved : goal.loop-row-preserved
loop-row-preserved c =
    going_next c.args.arena.now c.args.rows.now c.loop-row.kept.items c.take.new.kept.items c.loop-row.weaker.keys
    c.take.new.weaker.keys c.loop-row.row-index c.row-item.result c.loop-row-test.true c.row-item.is
    c.in_ok-left.ensures c.loop-row.invariant

pub returns : goal.returns
returns c = record {
  known = c.loop-row.invariant.kept_are.known;
  same = going_done c.args.arena.now c.args.rows.now c.loop-row.kept.items c.loop-row.weaker.keys c.loop-row.row-index
      c.loop-row-test.false c.loop-row.invariant;
}
