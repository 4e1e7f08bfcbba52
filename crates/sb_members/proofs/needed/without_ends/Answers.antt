use Rattle.std.proofs.Common.{ℕ, ◌<◌, length, sym, subst, ◌∙◌}
use Rattle.std.specs.List.{All}
use Rattle.std.proofs.lemmas.Result.{IfOk-from_err}
use Rattle.sb_members.specs.Strongest.{AreRows}
use Rattle.sb_members.proofs.needed.without_ends.Goals as goal

pub take_all-requires : goal.take_all-requires
take_all-requires c = record {
  rows = subst (All (λ (row : ℕ × ℕ). row.1 < length c.args.arena.now)) (sym c.deref.ensures.value)
      c.in_ok-rows.ensures.known;
  kept = c.new-kept.ensures.items;
  weaker = c.new-weaker.ensures.empty;
}

pub returns-in_err-rows : goal.returns-in_err-rows
returns-in_err-rows c =
    let e = c.from_residual.ensures.0 in
    record { known = IfOk-from_err c.from_residual.result _ e; same = IfOk-from_err c.from_residual.result _ e }

pub returns-in_err-take_all : goal.returns-in_err-take_all
returns-in_err-take_all c =
    let x = c.from_residual-in_err-take_all in
    record { known = IfOk-from_err x.result _ x.ensures.0; same = IfOk-from_err x.result _ x.ensures.0 }

pub returns : goal.returns
returns c =
    let rows = subst (AreRows c.args.arena.now c.args.parts.now) (sym c.deref.ensures.value) c.in_ok-rows.ensures in
    let e = c.in_ok-take_all.ensures in
    record { known = e.known; same = λ u. e.same u ∙ rows.same u }
