use Rattle.std.proofs.Common.{ℕ, ◌<◌, length}
use Rattle.std.proofs.lemmas.List.Elements.{All-nil}
use Rattle.std.proofs.lemmas.Result.{IfOk-from_err}
use Rattle.sb_regex.proofs.CallerLemmas.{number_in}
use Rattle.sb_members.proofs.Stronger.{rows_start, rows_next, rows_known, rows_done}
use Rattle.sb_members.proofs.needed.rows_of.Goals as goal

pub loop-part-init : goal.loop-part-init
loop-part-init c = record {
  known = rw c.new-rows.ensures.items (All-nil (λ (row : ℕ × ℕ). row.1 < length c.args.arena.now));
  same = λ u. rw c.new-rows.ensures.items (rows_start c.args.arena.now c.args.parts.now u);
}

pub rest_of-requires : goal.rest_of-requires
rest_of-requires c =
    number_in c.args.arena.now c.args.parts.now c.loop-part.part-index c.part-item.result c.requires
    c.loop-part-test.true c.part-item.is

pub returns-in_err-push : goal.returns-in_err-push
returns-in_err-push c = IfOk-from_err c.from_residual.result _ c.from_residual.ensures.0

pub loop-part-preserved : goal.loop-part-preserved
loop-part-preserved c =
    let i = c.loop-part.invariant in
    let below = number_in c.args.arena.now c.args.parts.now c.loop-part.part-index c.part-item.result c.requires
    c.loop-part-test.true c.part-item.is in
    record {
      known = rows_known c.args.arena.now c.loop-part.rows.items c.push.new.self.items _ c.part-item.result below
          c.in_ok-push.ensures.items i.known;
      same = λ u. rows_next c.args.arena.now c.args.parts.now c.loop-part.part-index c.part-item.result _
          c.loop-part.rows.items c.push.new.self.items c.loop-part-test.true c.part-item.is c.in_ok-push.ensures.items u
          (i.same u);
    }

pub returns : goal.returns
returns c =
    let i = c.loop-part.invariant in
    rows_done c.args.arena.now c.args.parts.now c.loop-part.part-index c.loop-part.rows.items
    c.sort_unstable.new.self.items c.loop-part-test.false i.known i.same c.sort_unstable.ensures.permutation
