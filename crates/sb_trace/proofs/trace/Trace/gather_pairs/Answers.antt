use Rattle.std.proofs.Common.{◌≡◌, ◌||◌, ℕ, ◌<◌, ◌≤◌, nat_eq, true, List, length, get_or, sym, ap, ap₂, subst, ◌∙◌, arith}
use Rattle.std.specs.List.{count_by}
use Rattle.std.proofs.lemmas.Bool.{false≢true}
use Rattle.std.proofs.lemmas.List.{get_or_default}
use Rattle.sb_regex.specs.Numbered.{regex_at}
use Rattle.sb_trace.specs.Reaching.{is_member, is_unexpanded}
use Rattle.sb_trace.specs.Pairing.{has_parts, LeadsToPairs, AddsSteps}
use Rattle.sb_trace.proofs.Growing.{goes_same, goes_both}
use Rattle.sb_trace.proofs.Exits.{told_some}
use Rattle.sb_trace.proofs.Pairs.{has_at, pairs_grew_none, pairs_grew_both, known_more, reached_more, pairs_lead_more, have_parts_more, parts_more}
use Rattle.sb_trace.proofs.trace.Trace.gather_pairs.Goals as goal

pub loop-place-init : goal.loop-place-init
loop-place-init c = record {
  goes = goes_same c.args.arena.now c.args.graph.now c.args.self.now c.requires.graph;
  grew = pairs_grew_none c.args.pairs.now.keys;
  known = c.requires.known;
  led = λ k l. absurd (omega (arith, l));
  gathered = λ k l. absurd (omega (arith, l));
  few = omega arith;
  counted = ap (count_by (is_unexpanded c.args.self.now)) (sym c.requires.none);
  parts = λ n h. absurd (false≢true (ap (λ (ms : List ℕ). is_member ms n) (sym c.requires.none) ∙ h));
  reached = λ r g h. h;
}

pub lead-requires-clause-first : goal.lead-requires-clause-first
lead-requires-clause-first c =
    let old = c.loop-place.pairs.keys in
    let place = c.loop-place.place in
    let within : place < length old = omega (arith, c.loop-place-test.true, c.len.ensures.len) in
    let item = c.index-as_slice-place.result in
    let same = ap (λ (ps : List (ℕ × ℕ)). get_or ps place item) c.as_slice.ensures.keys
    ∙ get_or_default old place item (0, 0) within in
    subst (λ (p : ℕ × ℕ). p.0 < length c.loop-place.arena) (sym same)
    (c.loop-place.invariant.known (get_or old place (0, 0)) (has_at old place within)).0

pub lead-requires-clause-second : goal.lead-requires-clause-second
lead-requires-clause-second c =
    let old = c.loop-place.pairs.keys in
    let place = c.loop-place.place in
    let within : place < length old = omega (arith, c.loop-place-test.true, c.len.ensures.len) in
    let item = c.index-as_slice-place-in-loop-place.result in
    let same = ap (λ (ps : List (ℕ × ℕ)). get_or ps place item) c.as_slice-in-loop-place.ensures.keys
    ∙ get_or_default old place item (0, 0) within in
    subst (λ (p : ℕ × ℕ). p.1 < length c.loop-place.arena) (sym same)
    (c.loop-place.invariant.known (get_or old place (0, 0)) (has_at old place within)).1

pub returns-in_default-clause-parts : goal.returns-in_default-clause-parts
returns-in_default-clause-parts c =
    let old = c.loop-place.pairs.keys in
    let place = c.loop-place.place in
    let within : place < length old = omega (arith, c.loop-place-test.true, c.len.ensures.len) in
    let p = get_or old place (0, 0) in
    let item = c.index-as_slice-place.result in
    let other = c.index-as_slice-place-in-loop-place.result in
    let same : get_or c.as_slice.result.now place item ≡ p =
    ap (λ (ps : List (ℕ × ℕ)). get_or ps place item) c.as_slice.ensures.keys
    ∙ get_or_default old place item (0, 0) within in
    let also : get_or c.as_slice-in-loop-place.result.now place other ≡ p =
    ap (λ (ps : List (ℕ × ℕ)). get_or ps place other) c.as_slice-in-loop-place.ensures.keys
    ∙ get_or_default old place other (0, 0) within in
    let parts = c.loop-place.parts.keys in
    parts_more old old parts c.count_pair.new.parts.keys p (pairs_grew_none old) (has_at old place within)
    (λ n there. ap₂ (λ (a b : ℕ × ℕ). is_member parts n || (nat_eq n a.0 || nat_eq n b.1)) (sym same) (sym also)
    ∙ c.in_ok-count.ensures.only n there)
    c.loop-place.invariant.parts

pub returns-in_err-lead-clause-goes : goal.returns-in_err-lead-clause-goes
returns-in_err-lead-clause-goes c =
    let t = c.args.self.now in
    goes_both c.args.arena.now c.loop-place.arena c.lead.new.arena c.args.graph.now c.loop-place.graph c.lead.new.graph
    t t t c.loop-place.invariant.goes c.in_err-lead.ensures.goes

pub loop-place-preserved : goal.loop-place-preserved
loop-place-preserved c =
    let before = c.loop-place.invariant in
    let t = c.args.self.now in
    let old = c.loop-place.pairs.keys in
    let new = c.lead.new.pairs.keys in
    let rs = c.loop-place.arena in
    let more = c.lead.new.arena in
    let place = c.loop-place.place in
    let within : place < length old = omega (arith, c.loop-place-test.true, c.len.ensures.len) in
    let p = get_or old place (0, 0) in
    let item = c.index-as_slice-place.result in
    let other = c.index-as_slice-place-in-loop-place.result in
    let one = get_or c.as_slice.result.now place item in
    let two = get_or c.as_slice-in-loop-place.result.now place other in
    let same : one ≡ p = ap (λ (ps : List (ℕ × ℕ)). get_or ps place item) c.as_slice.ensures.keys
    ∙ get_or_default old place item (0, 0) within in
    let also : two ≡ p = ap (λ (ps : List (ℕ × ℕ)). get_or ps place other) c.as_slice-in-loop-place.ensures.keys
    ∙ get_or_default old place other (0, 0) within in
    let parts = c.loop-place.parts.keys in
    let counted = c.in_ok-count.ensures in
    let many = c.count_pair.new.parts.keys in
    let count = c.in-Some.count in
    let some = c.in-Some.is in
    let h = c.in_ok-lead.ensures in
    let led : LeadsToPairs more new (regex_at rs p.0) (regex_at rs p.1) =
    subst (λ (a : ℕ × ℕ). LeadsToPairs more new (regex_at rs a.0) (regex_at rs p.1)) same
    (subst (λ (b : ℕ × ℕ). LeadsToPairs more new (regex_at rs one.0) (regex_at rs b.1)) also h.led) in
    let steps : AddsSteps more (regex_at rs p.0) (regex_at rs p.1) old new =
    subst (λ (a : ℕ × ℕ). AddsSteps more (regex_at rs a.0) (regex_at rs p.1) old new) same
    (subst (λ (b : ℕ × ℕ). AddsSteps more (regex_at rs one.0) (regex_at rs b.1) old new) also h.only) in
    let gathered : has_parts many p ≡ true =
    ap₂ (λ (a b : ℕ × ℕ). has_parts many (a.0, b.1)) (sym same) (sym also)
    ∙ told_some c.in_ok-count.field-0 count (λ n. has_parts many (one.0, two.1) ≡ true) some counted.gathered in
    record {
      goes = goes_both c.args.arena.now rs more c.args.graph.now c.loop-place.graph c.lead.new.graph t t t before.goes
          h.goes;
      grew = pairs_grew_both c.args.pairs.now.keys old new before.grew h.grew;
      known = known_more rs more (regex_at rs p.0) (regex_at rs p.1) old new h.goes.extends before.known steps;
      led = pairs_lead_more rs more old new place h.goes.extends h.grew within before.known led before.led;
      gathered = have_parts_more parts many old new place counted.stay h.grew within gathered before.gathered;
      few = told_some c.in_ok-count.field-0 count (λ n. n ≤ c.args.most) some counted.few;
      counted = told_some c.in_ok-count.field-0 count (λ n. n ≡ count_by (is_unexpanded t) many) some counted.counted;
      parts = parts_more old new parts many p h.grew (has_at old place within)
          (λ n there. ap₂ (λ (a b : ℕ × ℕ). is_member parts n || (nat_eq n a.0 || nat_eq n b.1)) (sym same) (sym also)
          ∙ counted.only n there) before.parts;
      reached = λ r g all.
          reached_more rs more r g p old new h.goes.extends (has_at old place within) steps (before.reached r g all);
    }
