use Rattle.std.proofs.Common.{ℕ, true, arith, ◌≡◌, ◌++◌, length, Option, None, refl, sym, ap, ◌∙◌}
use Rattle.std.proofs.lemmas.List.{length-map}
use Rattle.std.proofs.lemmas.Result.{err_from_is_err_and}
use Rattle.sb_lit.specs.declared.clause.Lit.{Lit}
use Rattle.sb_hints.specs.declared.rows.Row.{Row}
use Rattle.sb_hints.specs.Listing.{last_at, put_at}
use Rattle.sb_hints.specs.Storing.{place_in}
use Rattle.sb_hints.proofs.Storage.{kept-grown}
use Rattle.sb_hints.proofs.Scoping.{scoped_pushed, scoped_more}
use Rattle.sb_hints.proofs.Upkeep.{lists_same, stored_lists, stored_more, stored_push, kept_push, order_same}
use Rattle.sb_hints.proofs.clauses.KeptClauses.add.Goals as goal

abbrev row_of : (start end level : ℕ) → Option Lit → Option ℕ → Row
row_of start end level place before = record {
  start = start;
  end = end;
  level = level;
  is_kept = true;
  place = place;
  before = before;
  behind = None;
}

pub invariant_of-self : goal.invariant_of-self
invariant_of-self c = record {
  stored = stored_lists _ _ _ _
      (lists_same c.self.inside.lists c.reserve.new.self c.self.inside.bare c.reserve.ensures.entries)
      c.self.invariant.stored;
  scoped = c.self.invariant.scoped;
}

pub invariant_of-self-in_err-extend_from_slice : goal.invariant_of-self-in_err-extend_from_slice
invariant_of-self-in_err-extend_from_slice c =
    rw c.in_err-extend_from_slice.ensures.items (record {
      stored = stored_lists _ _ _ _
          (lists_same c.self.inside.lists c.reserve.new.self c.self.inside.bare c.reserve.ensures.entries)
          c.self.invariant.stored;
      scoped = c.self.invariant.scoped;
    })

pub invariant_of-self-in_err-push : goal.invariant_of-self-in_err-push
invariant_of-self-in_err-push c =
    let ls = c.self.inside.literals.items in
    let rows = c.self.inside.rows.items in
    let clause = c.args.clause.now in
    rw c.in_ok-extend_from_slice.ensures.items (record {
      stored = stored_more ls clause rows _
          (stored_lists _ _ _ _
          (lists_same c.self.inside.lists c.reserve.new.self c.self.inside.bare c.reserve.ensures.entries)
          c.self.invariant.stored);
      scoped = rw (c.in_err-push.ensures.unchanged.0, kept-grown ls clause rows c.self.invariant.stored.within)
          c.self.invariant.scoped;
    })

pub returns-in_err-push-clause-err : goal.returns-in_err-push-clause-err
returns-in_err-push-clause-err c =
    let p = err_from_is_err_and c.from_residual-in_err-push.result c.from_residual-in_err-push.ensures.1 in
    rw p.1 (rw c.in_ok-extend_from_slice.ensures.items
    (kept-grown c.self.inside.literals.items c.args.clause.now c.self.inside.rows.items c.self.invariant.stored.within
    ∙ c.self.view_is))

pub invariant_of-self-in_err-push-2 : goal.invariant_of-self-in_err-push-2
invariant_of-self-in_err-push-2 c =
    let ls = c.self.inside.literals.items in
    let rows = c.self.inside.rows.items in
    let clause = c.args.clause.now in
    rw (c.in_err-push-2.ensures.items, c.in_ok-extend_from_slice.ensures.items) (record {
      stored = stored_more ls clause rows _
          (stored_lists _ _ _ _
          (lists_same c.self.inside.lists c.reserve.new.self c.self.inside.bare c.reserve.ensures.entries)
          c.self.invariant.stored);
      scoped = rw (kept-grown ls clause rows c.self.invariant.stored.within)
          (scoped_pushed c.args.level c.len-number.result _ _ c.in_ok-push.ensures.permutation
          c.in_ok-push.ensures.heap_order _ c.self.invariant.scoped);
    })

pub returns-in_err-push-2-clause-err : goal.returns-in_err-push-2-clause-err
returns-in_err-push-2-clause-err c =
    let p = err_from_is_err_and c.from_residual-in_err-push-2.result c.from_residual-in_err-push-2.ensures.1 in
    rw p.1 (rw (c.in_err-push-2.ensures.items, c.in_ok-extend_from_slice.ensures.items)
    (kept-grown c.self.inside.literals.items c.args.clause.now c.self.inside.rows.items c.self.invariant.stored.within
    ∙ c.self.view_is))

pub invariant_of-self-2 : goal.invariant_of-self-2
invariant_of-self-2 c =
    let ls = c.self.inside.literals.items in
    let rows = c.self.inside.rows.items in
    let clause = c.args.clause.now in
    let row = row_of c.len-start.result c.len-end.result c.args.level c.rarest-place.result c.last_at-before.result in
    let same = c.in_ok-extend_from_slice.ensures.items in
    let at_start : c.len-start.result ≡ length ls =
    omega (arith, c.len-start.ensures, c.self.inside.literals.ok.0, c.self.inside.literals.ok.1) in
    let at_end : c.len-end.result ≡ length (ls ++ clause) =
    omega (
      arith,
      c.len-end.ensures,
      ap length same,
      c.extend_from_slice.new.self.ok.0,
      c.extend_from_slice.new.self.ok.1,
    ) in
    let was = stored_lists _ _ _ _
    (lists_same c.self.inside.lists c.reserve.new.self c.self.inside.bare c.reserve.ensures.entries)
    c.self.invariant.stored in
    let number : c.len-number.result ≡ length rows =
    omega (arith, c.len-number.ensures, c.self.inside.rows.ok.0, c.self.inside.rows.ok.1) in
    let pushed = kept_push ls rows (last_at c.reserve.new.self c.self.inside.bare)
    (last_at c.put.new.lists c.put.new.bare) clause c.rarest-place.result row was at_start at_end refl
    c.last_at-before.ensures in
    order_same _ (c.push-2.new.self.items) c.set_behind.new.rows.items _ _ c.set_behind.ensures.same
    c.set_behind.ensures.before
    (rw (c.in_ok-push-2.ensures.items, same) (record {
      stored = stored_push ls rows (last_at c.reserve.new.self c.self.inside.bare)
          (last_at c.put.new.lists c.put.new.bare) clause c.rarest-place.result row was at_start at_end refl
          c.last_at-before.ensures c.rarest-place.ensures
          (λ q. c.put.ensures q
          ∙ ap (λ n. put_at c.rarest-place.result n (last_at c.reserve.new.self c.self.inside.bare) q) number);
      scoped = rw pushed
          (scoped_more c.args.level c.len-number.result _ _ c.in_ok-push.ensures.permutation
          c.in_ok-push.ensures.heap_order _ _ (number ∙ sym (length-map rows (place_in ls))) refl
          c.self.invariant.scoped);
    }))

pub returns-clause-ok : goal.returns-clause-ok
returns-clause-ok c =
    let ls = c.self.inside.literals.items in
    let rows = c.self.inside.rows.items in
    let clause = c.args.clause.now in
    let row = row_of c.len-start.result c.len-end.result c.args.level c.rarest-place.result c.last_at-before.result in
    let same = c.in_ok-extend_from_slice.ensures.items in
    let at_start : c.len-start.result ≡ length ls =
    omega (arith, c.len-start.ensures, c.self.inside.literals.ok.0, c.self.inside.literals.ok.1) in
    let at_end : c.len-end.result ≡ length (ls ++ clause) =
    omega (
      arith,
      c.len-end.ensures,
      ap length same,
      c.extend_from_slice.new.self.ok.0,
      c.extend_from_slice.new.self.ok.1,
    ) in
    let was = stored_lists _ _ _ _
    (lists_same c.self.inside.lists c.reserve.new.self c.self.inside.bare c.reserve.ensures.entries)
    c.self.invariant.stored in
    c.set_behind.ensures.same.kept _ ∙ rw (c.in_ok-push-2.ensures.items, same, ← c.self.view_is)
    (kept_push ls rows (last_at c.reserve.new.self c.self.inside.bare)
    (last_at c.put.new.lists c.put.new.bare) clause c.rarest-place.result row was at_start at_end refl
    c.last_at-before.ensures)
