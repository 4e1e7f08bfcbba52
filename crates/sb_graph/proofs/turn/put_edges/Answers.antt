use Rattle.std.proofs.lemmas.Result.{IfOk-from_err}
use Rattle.sb_regex.proofs.CallerLemmas.{extends_more, extends_same, number_kept}
use Rattle.sb_graph.proofs.WalkSteps.{target_known, puts_more, puts_all, put_kept}
use Rattle.sb_graph.proofs.turn.put_edges.Goals as goal

pub put_parts-requires : goal.put_parts-requires
put_parts-requires c =
    number_kept c.args.arena.now c.loop-character.arena _ c.loop-character.invariant.extends
    (target_known c.args.arena.now c.args.edges.now c.loop-character.character-index c.loop-character-item.result
    c.loop-character-test.true c.loop-character-item.is c.requires)

pub loop-character-preserved : goal.loop-character-preserved
loop-character-preserved c =
    let i = c.loop-character.invariant in
    let e = c.in_ok-put_parts.ensures in
    let new = c.put_parts.new.arena in
    let edge = c.loop-character-item.result in
    let more = extends_more c.args.arena.now c.loop-character.arena new i.extends e.extends in
    let known = number_kept c.args.arena.now new edge.1 more
    (target_known c.args.arena.now c.args.edges.now c.loop-character.character-index edge c.loop-character-test.true
    c.loop-character-item.is c.requires) in
    record {
      extends = more;
      puts = λ later end m p. i.puts later end (extends_more c.loop-character.arena new later e.extends m)
          (puts_more later c.args.place c.args.edges.now c.loop-character.character-index edge c.loop-character.queue
          c.put_parts.new.queue end c.loop-character-test.true c.loop-character-item.is
          (put_kept new later m edge.1 (c.args.place, edge.0) c.loop-character.queue c.put_parts.new.queue known e.put)
          p);
    }

pub returns-clause-puts : goal.returns-clause-puts
returns-clause-puts c =
    c.loop-character.invariant.puts c.loop-character.arena c.loop-character.queue (extends_same c.loop-character.arena)
    (puts_all c.loop-character.arena c.args.place c.args.edges.now c.loop-character.character-index
    c.loop-character.queue c.loop-character-test.false)

pub loop-character-init : goal.loop-character-init
loop-character-init c = record { extends = extends_same c.args.arena.now; puts = λ later end m p. p }

pub returns-in_err-put_parts : goal.returns-in_err-put_parts
returns-in_err-put_parts c =
    let x = c.from_residual in
    record {
      puts = IfOk-from_err x.result _ x.ensures.0;
      extends = extends_more c.args.arena.now c.loop-character.arena c.put_parts.new.arena
          c.loop-character.invariant.extends c.put_parts.ensures.extends;
    }
