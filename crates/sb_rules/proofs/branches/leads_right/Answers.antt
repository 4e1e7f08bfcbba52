use Rattle.std.proofs.Common.{ℕ, leb, sym, ◌∙◌, get_or, below_more, arith, rules}
use Rattle.std.proofs.lemmas.Bool.{leb-true, leb-false}
use Rattle.std.proofs.lemmas.List.Sorted.{IsPartitionPoint-from_clause, IsPartitionedBy-leb}
use Rattle.std.proofs.lemmas.Map.Keys.{sorted_from_strictly_increasing, non_decreasing_from_sorted}
use Rattle.sb_regex.specs.Numbered.{regex_at}
use Rattle.sb_regex.proofs.CallerLemmas.{extends_more, number_kept}
use Rattle.sb_rules.specs.Pieces.{leads_at}
use Rattle.sb_rules.proofs.Between.{wrong-piece, right-piece, all-looked-at, kept-leads}
use Rattle.sb_rules.proofs.branches.leads_right.Goals as goal

pub returns-then-not-branch-clause-ok : goal.returns-then-not-branch-clause-ok
returns-then-not-branch-clause-ok c =
    wrong-piece c.args.arena.now (regex_at c.args.arena.now c.args.regex) c.args.piece c.args.piece.0 (omega arith)
    c.requires.ordered
    c.requires.characters
    (sym c.in_ok-leads_at.ensures.ok ∙ c.if-not-branch.true)

pub loop-place-init : goal.loop-place-init
loop-place-init c =
    let sorted = non_decreasing_from_sorted _
    (sorted_from_strictly_increasing c.args.points.now c.requires.points.are_points.ascending) in
    let parted = IsPartitionedBy-leb (λ (p : ℕ). p) _ c.args.piece.0 sorted in
    let point = IsPartitionPoint-from_clause (λ (p : ℕ). leb p c.args.piece.0) _ _
    c.partition_point-place.ensures.partitioned parted (λ a r q k. search rules) in
    record {
      extends = c.leads_at.ensures.extends;
      right = c.leads_at.ensures.right;
      past = λ k i a. let low = leb-true _ _ (point.0 k 0 (omega arith) i) in absurd (omega (arith, a, low));
      ahead = λ k i l. leb-false _ _ (point.1 k 0 i l);
    }

pub loop-place-preserved : goal.loop-place-preserved
loop-place-preserved c =
    let old = c.args.arena.now in
    let now = c.loop-place.arena in
    record {
      extends = extends_more old now c.leads_at-in-loop-place.new.arena c.loop-place.invariant.extends
          c.leads_at-in-loop-place.ensures.extends;
      right = c.leads_at-in-loop-place.ensures.right;
      past = below_more _ _ c.loop-place.invariant.past
          (λ a. sym
          (kept-leads old now c.args.regex c.loop-place.invariant.extends c.requires.known c.args.piece.1.1
          c.requires.target (get_or c.args.points.now c.loop-place.place 0))
          ∙ sym c.in_ok-leads_at-2.ensures.ok
          ∙ c.if-not-branch-2.false);
      ahead = λ k i l. c.loop-place.invariant.ahead k (omega arith) l;
    }

pub returns-else-points-place-clause-ok : goal.returns-else-points-place-clause-ok
returns-else-points-place-clause-ok c =
    let old = c.args.arena.now in
    let r = regex_at c.args.arena.now c.args.regex in
    right-piece old r c.args.piece c.args.points.now c.requires.points c.requires.characters
    (sym c.in_ok-leads_at.ensures.ok ∙ c.if-not-branch.false)
    (all-looked-at c.args.points.now c.requires.points.are_points.ascending (λ d. leads_at old r d c.args.piece)
    c.args.piece.0 c.args.piece.1.0 c.loop-place.place c.loop-place.invariant.past (λ l. c.if-points-place.false))

pub returns-after-loop-place-clause-ok : goal.returns-after-loop-place-clause-ok
returns-after-loop-place-clause-ok c =
    let old = c.args.arena.now in
    let r = regex_at c.args.arena.now c.args.regex in
    let done = c.loop-place-test.false in
    right-piece old r c.args.piece c.args.points.now c.requires.points c.requires.characters
    (sym c.in_ok-leads_at.ensures.ok ∙ c.if-not-branch.false)
    (all-looked-at c.args.points.now c.requires.points.are_points.ascending (λ d. leads_at old r d c.args.piece)
    c.args.piece.0 c.args.piece.1.0 c.loop-place.place c.loop-place.invariant.past
    (λ l. absurd (omega (arith, l, done))))

pub leads_at-requires-in-loop-place-clause-known : goal.leads_at-requires-in-loop-place-clause-known
leads_at-requires-in-loop-place-clause-known c =
    number_kept c.args.arena.now c.loop-place.arena c.args.regex c.loop-place.invariant.extends c.requires.known

pub leads_at-requires-in-loop-place-clause-target : goal.leads_at-requires-in-loop-place-clause-target
leads_at-requires-in-loop-place-clause-target c =
    number_kept c.args.arena.now c.loop-place.arena c.args.piece.1.1 c.loop-place.invariant.extends c.requires.target

pub returns-in_err-leads_at-2-clause-extends : goal.returns-in_err-leads_at-2-clause-extends
returns-in_err-leads_at-2-clause-extends c =
    extends_more c.args.arena.now c.loop-place.arena c.leads_at-in-loop-place.new.arena c.loop-place.invariant.extends
    c.leads_at-in-loop-place.ensures.extends

pub returns-then-not-branch-2-clause-extends : goal.returns-then-not-branch-2-clause-extends
returns-then-not-branch-2-clause-extends c =
    extends_more c.args.arena.now c.loop-place.arena c.leads_at-in-loop-place.new.arena c.loop-place.invariant.extends
    c.leads_at-in-loop-place.ensures.extends

pub returns-then-not-branch-2-clause-ok : goal.returns-then-not-branch-2-clause-ok
returns-then-not-branch-2-clause-ok c =
    let old = c.args.arena.now in
    let place = c.loop-place.place in
    let at = get_or c.args.points.now place 0 in
    let low = c.loop-place.invariant.ahead place (omega arith) c.loop-place-test.true in
    wrong-piece old (regex_at old c.args.regex) c.args.piece at (omega (arith, low)) c.if-points-place.true
    c.requires.characters
    (sym
    (kept-leads old c.loop-place.arena c.args.regex c.loop-place.invariant.extends c.requires.known c.args.piece.1.1
    c.requires.target at)
    ∙ sym c.in_ok-leads_at-2.ensures.ok
    ∙ c.if-not-branch-2.true)
