use Rattle.sb_regex.proofs.CallerLemmas.{extends_more, extends_same, number_kept}
use Rattle.sb_graph.proofs.WalkSteps.{target_known}
use Rattle.sb_graph.proofs.Fronts.{pushing_start, pushing_next, pushing_done, pieces_known}
use Rattle.sb_graph.proofs.edges.push_pieces.Goals as goal

pub push_one-requires-clause-target : goal.push_one-requires-clause-target
push_one-requires-clause-target c =
    number_kept c.args.arena.now c.loop-character.arena _ c.loop-character.invariant.extends
    (target_known c.args.arena.now c.args.pieces.now c.loop-character.character-index c.loop-character-item.result
    c.loop-character-test.true c.loop-character-item.is c.requires.pieces)

pub push_one-requires-clause-rest : goal.push_one-requires-clause-rest
push_one-requires-clause-rest c =
    number_kept c.args.arena.now c.loop-character.arena c.args.rest c.loop-character.invariant.extends c.requires.rest

pub returns-in_err-push_one-clause-extends : goal.returns-in_err-push_one-clause-extends
returns-in_err-push_one-clause-extends c =
    extends_more c.args.arena.now c.loop-character.arena c.push_one.new.arena c.loop-character.invariant.extends
    c.in_err-push_one.ensures.extends

pub loop-character-init : goal.loop-character-init
loop-character-init c = record {
  extends = extends_same c.args.arena.now;
  pushed = pushing_start c.args.arena.now c.args.pieces.now c.args.rest c.args.edges.now.items;
}

pub loop-character-preserved : goal.loop-character-preserved
loop-character-preserved c =
    let i = c.loop-character.invariant in
    let e = c.in_ok-push_one.ensures in
    let start = c.args.arena.now in
    let old = c.loop-character.arena in
    let new = c.push_one.new.arena in
    record {
      extends = extends_more start old new i.extends e.extends;
      pushed = pushing_next old new e.extends c.args.pieces.now c.args.rest
          (pieces_known start old i.extends c.args.pieces.now c.requires.pieces)
          (number_kept start old c.args.rest i.extends c.requires.rest) c.args.edges.now.items
          c.loop-character.edges.items c.push_one.new.edges.items c.loop-character.character-index
          c.loop-character-item.result c.loop-character-test.true c.loop-character-item.is e.pushed i.pushed;
    }

pub returns-clause-pushed : goal.returns-clause-pushed
returns-clause-pushed c =
    pushing_done c.loop-character.arena c.args.pieces.now c.args.rest c.args.edges.now.items
    c.loop-character.edges.items c.loop-character.character-index c.loop-character-test.false
    c.loop-character.invariant.pushed
