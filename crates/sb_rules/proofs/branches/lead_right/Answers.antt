use Rattle.std.proofs.Common.{◌<◌, length}
use Rattle.sb_regex.proofs.CallerLemmas.{extends_more, number_kept}
use Rattle.sb_rules.specs.Pieces.{Piece}
use Rattle.sb_rules.proofs.Counts.{IsWithin}
use Rattle.sb_rules.proofs.Gathered.{covers-within}
use Rattle.sb_rules.proofs.Between.{item-has, left-right, left-wrong}
use Rattle.sb_rules.proofs.branches.lead_right.Goals as goal

pub leads_right-requires-clause-target : goal.leads_right-requires-clause-target
leads_right-requires-clause-target c =
    number_kept c.args.arena.now c.loop-piece.arena c.piece-item.result.1.1 c.loop-piece.invariant.extends
    (item-has (λ (p : Piece). p.1.1 < length c.args.arena.now) c.args.pieces.now c.loop-piece.piece-index
    c.piece-item.result c.loop-piece-test.true c.piece-item.is c.requires.targets)

pub leads_right-requires-clause-ordered : goal.leads_right-requires-clause-ordered
leads_right-requires-clause-ordered c =
    (item-has IsWithin c.args.pieces.now c.loop-piece.piece-index c.piece-item.result c.loop-piece-test.true
    c.piece-item.is (covers-within 0 c.args.pieces.now c.requires.covers)).ordered

pub leads_right-requires-clause-characters : goal.leads_right-requires-clause-characters
leads_right-requires-clause-characters c =
    (item-has IsWithin c.args.pieces.now c.loop-piece.piece-index c.piece-item.result c.loop-piece-test.true
    c.piece-item.is (covers-within 0 c.args.pieces.now c.requires.covers)).character

pub returns-then-not-branch-clause-ok : goal.returns-then-not-branch-clause-ok
returns-then-not-branch-clause-ok c =
    let known = item-has (λ (p : Piece). p.1.1 < length c.args.arena.now) c.args.pieces.now c.loop-piece.piece-index
    c.piece-item.result c.loop-piece-test.true c.piece-item.is c.requires.targets in
    left-wrong c.args.arena.now c.loop-piece.arena c.args.regex c.loop-piece.invariant.extends c.requires.known
    c.args.pieces.now c.loop-piece.piece-index c.piece-item.result c.loop-piece-test.true c.piece-item.is known
    c.loop-piece.invariant.left
    c.in_ok-leads_right.field-0
    c.if-not-branch.true
    c.in_ok-leads_right.ensures.ok

pub loop-piece-preserved : goal.loop-piece-preserved
loop-piece-preserved c =
    let known = item-has (λ (p : Piece). p.1.1 < length c.args.arena.now) c.args.pieces.now c.loop-piece.piece-index
    c.piece-item.result c.loop-piece-test.true c.piece-item.is c.requires.targets in
    record {
      extends = extends_more c.args.arena.now c.loop-piece.arena c.leads_right.new.arena c.loop-piece.invariant.extends
          c.leads_right.ensures.extends;
      right = c.leads_right.ensures.right;
      left = left-right c.args.arena.now c.loop-piece.arena c.args.regex c.loop-piece.invariant.extends c.requires.known
          c.args.pieces.now c.loop-piece.piece-index c.piece-item.result c.loop-piece-test.true c.piece-item.is known
          c.loop-piece.invariant.left
          c.in_ok-leads_right.field-0
          c.if-not-branch.false
          c.in_ok-leads_right.ensures.ok;
    }

pub leads_right-requires-clause-known : goal.leads_right-requires-clause-known
leads_right-requires-clause-known c =
    number_kept c.args.arena.now c.loop-piece.arena c.args.regex c.loop-piece.invariant.extends c.requires.known

pub returns-in_err-leads_right-clause-extends : goal.returns-in_err-leads_right-clause-extends
returns-in_err-leads_right-clause-extends c =
    extends_more c.args.arena.now c.loop-piece.arena c.leads_right.new.arena c.loop-piece.invariant.extends
    c.leads_right.ensures.extends

pub returns-then-not-branch-clause-extends : goal.returns-then-not-branch-clause-extends
returns-then-not-branch-clause-extends c =
    extends_more c.args.arena.now c.loop-piece.arena c.leads_right.new.arena c.loop-piece.invariant.extends
    c.leads_right.ensures.extends
