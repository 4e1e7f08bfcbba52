use Rattle.std.proofs.Common.{◌+◌, ◌++◌, drop, sym, ap, ◌∙◌, arith}
use Rattle.sb_class.specs.Ranges.{rises_from}
use Rattle.sb_proof.specs.declared.line.Class.{Class}
use Rattle.sb_rules.specs.Pieces.{ranged_at, pieces_to}
use Rattle.sb_rules.proofs.Gathered.{is-added, not-added, ranged-more, ranged-end, wrong-class, one-class, one-more, all-gathered}
use Rattle.sb_rules.proofs.pieces.pieces_of.Goals as goal

pub returns-then-not-branch : goal.returns-then-not-branch
returns-then-not-branch c =
    let all = ranged_at c.args.classes.now c.args.targets.now in
    let i = c.loop-place.place in
    let k = c.index-classes-place.result in
    let id = c.index-targets-place.result in
    let same = c.deref.ensures.value ∙ sym (ap (λ (k : Class). k.ranges.items) c.index-classes-place.is) in
    wrong-class all (drop i all) (drop (i + 1) all) (k.ranges.items, id)
    c.loop-place.invariant.canonical
    (ranged-more c.args.classes.now c.args.targets.now i k id c.requires c.loop-place-test.true
    c.index-classes-place.is c.index-targets-place.is)
    (ap (rises_from 0) (sym same)
    ∙ not-added c.loop-place.pieces.items c.add.new.pieces.items c.deref.result.now id c.in_ok-add.field-0
    c.if-not-branch.true c.in_ok-add.ensures)

pub loop-place-preserved : goal.loop-place-preserved
loop-place-preserved c =
    let all = ranged_at c.args.classes.now c.args.targets.now in
    let i = c.loop-place.place in
    let k = c.index-classes-place.result in
    let id = c.index-targets-place.result in
    let old = c.loop-place.pieces.items in
    let new = c.add.new.pieces.items in
    let next = ranged-more c.args.classes.now c.args.targets.now i k id c.requires c.loop-place-test.true
    c.index-classes-place.is c.index-targets-place.is in
    let same = c.deref.ensures.value ∙ sym (ap (λ (k : Class). k.ranges.items) c.index-classes-place.is) in
    let added = is-added old new c.deref.result.now id c.in_ok-add.field-0 c.if-not-branch.false c.in_ok-add.ensures in
    record {
      canonical = one-class all (drop i all) (drop (i + 1) all) (k.ranges.items, id)
          c.loop-place.invariant.canonical next
          (ap (rises_from 0) (sym same) ∙ added.0);
      gathered = one-more all (drop i all) (drop (i + 1) all) (k.ranges.items, id) old new
          c.loop-place.invariant.gathered next
          (added.1 ∙ ap (λ ranges. old ++ pieces_to id ranges) same);
    }

pub returns : goal.returns
returns c =
    let all = ranged_at c.args.classes.now c.args.targets.now in
    all-gathered all (drop c.loop-place.place all) c.loop-place.pieces.items c.sort_unstable.new.self.items
    (ranged-end c.args.classes.now c.args.targets.now c.loop-place.place c.requires
    (omega (arith, c.loop-place-test.false)))
    c.loop-place.invariant.canonical
    c.loop-place.invariant.gathered
    c.sort_unstable.ensures.permutation
    c.sort_unstable.ensures.sorted
