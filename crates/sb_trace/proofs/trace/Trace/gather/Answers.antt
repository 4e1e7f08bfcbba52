use Rattle.std.proofs.Common.{◌≡◌, ℕ, ◌+◌, ◌<◌, List, length, get_or, cond, refl, sym, ap, subst, ◌∙◌, arith}
use Rattle.std.proofs.lemmas.List.{get_or_default}
use Rattle.sb_graph.specs.Findings.{is_marked}
use Rattle.sb_trace.specs.Reaching.{is_member, is_unexpanded}
use Rattle.sb_trace.specs.Closing.{IsLed}
use Rattle.sb_trace.proofs.Growing.{goes_same, goes_both}
use Rattle.sb_trace.proofs.Closures.{grew_none, grew_both, led_more, led_all, member_at, unburied_at}
use Rattle.sb_trace.proofs.Counts.{count_more_in, counted_past}
use Rattle.sb_trace.proofs.trace.Trace.gather.Goals as goal

pub loop-place-init : goal.loop-place-init
loop-place-init c = record {
  goes = goes_same c.args.arena.now c.args.graph.now c.args.self.now c.requires.graph;
  grew = grew_none c.args.members.now.keys;
  known = c.requires.known;
  led = λ k l. absurd (omega (arith, l));
  few = omega arith;
  counted = refl;
  reached = λ r h. h;
  unburied = λ skips h. h;
}

pub gather_at-requires-clause-regex : goal.gather_at-requires-clause-regex
gather_at-requires-clause-regex c =
    let before = c.loop-place.invariant in
    let old = c.loop-place.members.keys in
    let within : c.loop-place.place < length old = omega (arith, c.loop-place-test.true, c.len.ensures.len) in
    let regex = c.index-as_slice-place.result in
    let same : regex ≡ get_or old c.loop-place.place regex =
    c.index-as_slice-place.is ∙ ap (λ (ms : List ℕ). get_or ms c.loop-place.place regex) c.as_slice.ensures.keys in
    subst (λ n. n < length c.loop-place.arena) (sym same) (before.known c.loop-place.place regex within)

pub returns-in_default-clause-many : goal.returns-in_default-clause-many
returns-in_default-clause-many c =
    let before = c.loop-place.invariant in
    let old = c.loop-place.members.keys in
    let within : c.loop-place.place < length old = omega (arith, c.loop-place-test.true, c.len.ensures.len) in
    let regex = c.index-as_slice-place.result in
    let same : regex ≡ get_or old c.loop-place.place 0 =
    c.index-as_slice-place.is ∙ ap (λ (ms : List ℕ). get_or ms c.loop-place.place regex) c.as_slice.ensures.keys
    ∙ get_or_default old c.loop-place.place regex 0 within in
    λ stopped. counted_past (is_unexpanded c.args.self.now) old c.loop-place.place c.args.most c.loop-place.lacking within
    before.counted c.in_default.ensures.none.0
    (ap (is_unexpanded c.args.self.now) (sym same) ∙ c.in_default.ensures.none.1)

pub loop-place-preserved : goal.loop-place-preserved
loop-place-preserved c =
    let before = c.loop-place.invariant in
    let h = c.in_ok-gather_at.ensures in
    let t = c.args.self.now in
    let old = c.loop-place.members.keys in
    let new = c.gather_at.new.members.keys in
    let place = c.loop-place.place in
    let within : place < length old = omega (arith, c.loop-place-test.true, c.len.ensures.len) in
    let regex = c.index-as_slice-place.result in
    let same : regex ≡ get_or old place 0 =
    c.index-as_slice-place.is ∙ ap (λ (ms : List ℕ). get_or ms place regex) c.as_slice.ensures.keys
    ∙ get_or_default old place regex 0 within in
    let memo = c.gather_at.new.graph.memo in
    let some = c.in-Some.ensures.some in
    record {
      goes = goes_both c.args.arena.now c.loop-place.arena c.gather_at.new.arena c.args.graph.now c.loop-place.graph
          c.gather_at.new.graph t t t before.goes h.goes;
      grew = grew_both c.args.members.now.keys old new before.grew h.grew;
      known = h.known;
      led = led_more c.loop-place.graph.memo memo c.args.skips t old new place h.goes.derivatives h.grew within
          (subst (λ (n : ℕ). IsLed memo c.args.skips t new n) same h.led) before.led;
      few = some.0;
      counted = some.1
          ∙ ap (λ (n : ℕ). c.loop-place.lacking + cond (is_unexpanded t n) 1 0) same
          ∙ count_more_in (is_unexpanded t) old new place c.loop-place.lacking h.grew within before.counted;
      reached = λ r all.
          let now = before.reached r all in
          h.reached r (now regex (ap (is_member old) same ∙ member_at old place within)) now;
      unburied = λ skips all.
          let now = before.unburied skips all in
          h.unburied skips
          (ap (is_marked c.loop-place.graph.dead) same ∙ unburied_at c.loop-place.graph.dead t old place now within) now;
    }

pub returns-clause-closed : goal.returns-clause-closed
returns-clause-closed c = λ done.
    led_all c.loop-place.graph.memo c.args.skips c.args.self.now c.loop-place.members.keys c.loop-place.place
    (omega (arith, c.loop-place-test.false, c.len.ensures.len)) c.loop-place.invariant.led

pub returns-in_err-gather_at-clause-goes : goal.returns-in_err-gather_at-clause-goes
returns-in_err-gather_at-clause-goes c =
    let t = c.args.self.now in
    goes_both c.args.arena.now c.loop-place.arena c.gather_at.new.arena c.args.graph.now c.loop-place.graph
    c.gather_at.new.graph t t t c.loop-place.invariant.goes c.in_err-gather_at.ensures.goes
