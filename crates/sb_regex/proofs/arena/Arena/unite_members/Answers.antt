use Rattle.std.proofs.Common.{◌∙◌, sym, subst}
use Rattle.std.proofs.lemmas.Result.{IfOk-from_err}
use Rattle.sb_regex.specs.Numbered.{regexes_at, Extends, AllNumbers}
use Rattle.sb_regex.proofs.CallerLemmas.{extends_more, numbers_kept, names_kept}
use Rattle.sb_regex.proofs.Combining.{decider_found, rest_sorted, kept_numbers, union_is_anything, union_is_rest}
use Rattle.sb_regex.proofs.arena.Arena.unite_members.Goals as goal

pub returns-then-contains : goal.returns-then-contains
returns-then-contains c =
    record {
      ok = let old = c.args.self.now in
          let new = c.anything.new.self in
          let ms = c.args.members.items in
          let ext = extends_more old c.none.new.self new c.in_ok-none.ensures.extends c.in_ok-anything.ensures.extends
          in
          let there = numbers_kept old new ms ext c.requires.numbers in
          let found = decider_found c.order_tells_apart.ensures old new c.normal_regexes_each_once.ensures.distinct
          ext _ _
          c.in_ok-anything.ensures.ok ms c.deref.result.now c.deref.ensures.value c.requires.numbers there _
          c.contains.ensures.value ∙ c.if-contains.true in
          rw (← union_is_anything (regexes_at old ms) found) c.in_ok-anything.ensures.ok;
      extends = extends_more c.args.self.now c.none.new.self c.anything.new.self c.none.ensures.extends
          c.anything.ensures.extends;
    }

pub in_order-requires : goal.in_order-requires
in_order-requires c =
    let old = c.args.self.now in
    let new = c.anything.new.self in
    let ms = c.args.members.items in
    let ext = extends_more old c.none.new.self new c.in_ok-none.ensures.extends c.in_ok-anything.ensures.extends in
    let there = numbers_kept old new ms ext c.requires.numbers in
    rw (c.deref-2.ensures.value) (kept_numbers new ms c.others.result.items _ there c.others.ensures)

pub alt_of-requires-clause-normal : goal.alt_of-requires-clause-normal
alt_of-requires-clause-normal c =
    let old = c.args.self.now in
    let new = c.anything.new.self in
    let ms = c.args.members.items in
    let ext = extends_more old c.none.new.self new c.in_ok-none.ensures.extends c.in_ok-anything.ensures.extends in
    let there = numbers_kept old new ms ext c.requires.numbers in
    let not_found = decider_found c.order_tells_apart.ensures old new c.normal_regexes_each_once.ensures.distinct ext _
    _ c.in_ok-anything.ensures.ok ms c.deref.result.now c.deref.ensures.value c.requires.numbers there _
    c.contains.ensures.value ∙ c.if-contains.false in
    let order = rest_sorted c.order_tells_apart.ensures old new c.normal_regexes_each_once.ensures.distinct ext _ _
    (names_kept c.none.new.self c.anything.new.self _ _ c.in_ok-anything.ensures.extends c.in_ok-none.ensures.ok) ms
    c.others.result.items c.in_ok-rising.rising.items c.deref-3.result.now c.requires.numbers there c.others.ensures
    (rw (c.in_order.ensures.same, c.deref-2.ensures.value) at c.in_ok-rising.ensures.value) c.deref-3.ensures.value in
    rw (
      c.in_order.ensures.same,
      union_is_rest (regexes_at old ms)
          (regexes_at new c.deref-3.result.now) not_found order,
    ) (c.requires.normal)

pub returns : goal.returns
returns c =
    record {
      ok = let old = c.args.self.now in
          let new = c.anything.new.self in
          let ms = c.args.members.items in
          let ext = extends_more old c.none.new.self new c.in_ok-none.ensures.extends c.in_ok-anything.ensures.extends
          in
          let there = numbers_kept old new ms ext c.requires.numbers in
          let not_found = decider_found c.order_tells_apart.ensures old new
          c.normal_regexes_each_once.ensures.distinct ext _
          _ c.in_ok-anything.ensures.ok ms c.deref.result.now c.deref.ensures.value c.requires.numbers there _
          c.contains.ensures.value ∙ c.if-contains.false in
          let order = rest_sorted c.order_tells_apart.ensures old new c.normal_regexes_each_once.ensures.distinct ext
          _ _
          (names_kept c.none.new.self c.anything.new.self _ _ c.in_ok-anything.ensures.extends
          c.in_ok-none.ensures.ok) ms
          c.others.result.items c.in_ok-rising.rising.items c.deref-3.result.now c.requires.numbers there
          c.others.ensures
          (rw (c.in_order.ensures.same, c.deref-2.ensures.value) at c.in_ok-rising.ensures.value)
          c.deref-3.ensures.value in
          rw (← union_is_rest (regexes_at old ms) (regexes_at new c.deref-3.result.now) not_found order) (rw
          (c.in_order.ensures.same) at c.alt_of.ensures.ok);
      extends = extends_more c.args.self.now c.anything.new.self c.alt_of.new.self
          (extends_more c.args.self.now c.none.new.self c.anything.new.self c.none.ensures.extends
          c.anything.ensures.extends)
          (subst (λ rs. Extends rs c.alt_of.new.self) c.in_order.ensures.same c.alt_of.ensures.extends);
    }

pub returns-in_err-none : goal.returns-in_err-none
returns-in_err-none c =
    let x = c.from_residual in
    record {
      ok = IfOk-from_err x.result _ x.ensures.0;
      extends = c.none.ensures.extends;
    }

pub returns-in_err-anything : goal.returns-in_err-anything
returns-in_err-anything c =
    let x = c.from_residual-in_err-anything in
    record {
      ok = IfOk-from_err x.result _ x.ensures.0;
      extends = extends_more c.args.self.now c.none.new.self c.anything.new.self c.none.ensures.extends
          c.anything.ensures.extends;
    }

pub returns-in_err-rising : goal.returns-in_err-rising
returns-in_err-rising c =
    let x = c.from_residual-in_err-rising in
    record {
      ok = IfOk-from_err x.result _ x.ensures.0;
      extends = subst (Extends c.args.self.now) (sym c.in_order.ensures.same)
          (extends_more c.args.self.now c.none.new.self c.anything.new.self c.none.ensures.extends
          c.anything.ensures.extends);
    }

pub alt_of-requires-clause-numbers : goal.alt_of-requires-clause-numbers
alt_of-requires-clause-numbers c =
    subst (AllNumbers c.in_order.new.self) (sym c.deref-3.ensures.value) c.in_ok-rising.ensures.numbers
