use Rattle.std.proofs.Common.{sym}
use Rattle.std.proofs.lemmas.Result.{IfOk-from_err, on_ok_weaker}
use Rattle.sb_regex.proofs.CallerLemmas.{extends_more, number_kept}
use Rattle.sb_graph.proofs.Fronts.{from_start}
use Rattle.sb_graph.proofs.edges.push_from.Goals as goal

pub front_of-requires : goal.front_of-requires
front_of-requires c = c.requires.known

pub returns-in_err-head : goal.returns-in_err-head
returns-in_err-head c =
    let e = c.in_err-head.ensures in
    record {
      pushed = IfOk-from_err c.from_residual.result _ c.from_residual.ensures.0;
      extends = e.extends;
      faithful = c.faithful_stays.ensures c.args.arena.now c.front_of.new.arena c.args.deriver.now e.extends
          c.requires.faithful;
      kept = λ n pieces h. h;
    }

pub derive-requires-clause-faithful : goal.derive-requires-clause-faithful
derive-requires-clause-faithful c =
    c.faithful_stays.ensures c.args.arena.now c.front_of.new.arena c.args.deriver.now c.in_ok-head.ensures.extends
    c.requires.faithful

pub returns-in_err-derive : goal.returns-in_err-derive
returns-in_err-derive c =
    let x = c.from_residual-in_err-derive in
    let e = c.in_err-derive.ensures in
    record {
      pushed = IfOk-from_err x.result _ x.ensures.0;
      extends = extends_more c.args.arena.now c.front_of.new.arena c.derive.new.arena c.in_ok-head.ensures.extends
          e.extends;
      faithful = e.faithful;
      kept = e.kept;
    }

pub pieces_of-requires : goal.pieces_of-requires
pieces_of-requires c = c.in_ok-derive.ensures.done

pub push_pieces-requires-clause-pieces : goal.push_pieces-requires-clause-pieces
push_pieces-requires-clause-pieces c =
    (c.in_ok-derive.ensures.faithful c.in_ok-head.head c.pieces_of.result.now (sym c.pieces_of.ensures)).derivative.targets

pub returns : goal.returns
returns c =
    let h = c.in_ok-head.ensures in
    let d = c.in_ok-derive.ensures in
    let p = c.push_pieces.ensures in
    let faithful = c.faithful_stays.ensures c.derive.new.arena c.push_pieces.new.arena c.derive.new.self p.extends
    d.faithful in
    record {
      pushed = on_ok_weaker c.push_pieces.result
          (λ pushed. from_start c.args.arena.now c.front_of.new.arena c.derive.new.arena c.push_pieces.new.arena
          c.derive.new.self c.args.start c.in_ok-head.head c.in_ok-head.rest c.pieces_of.result.now
          c.args.edges.now.items c.push_pieces.new.edges.items h.extends d.extends p.extends c.requires.known h.front
          faithful c.pieces_of.ensures pushed)
          p.pushed;
      extends = extends_more c.args.arena.now c.front_of.new.arena c.push_pieces.new.arena h.extends
          (extends_more c.front_of.new.arena c.derive.new.arena c.push_pieces.new.arena d.extends p.extends);
      faithful = faithful;
      kept = d.kept;
    }

pub push_pieces-requires-clause-rest : goal.push_pieces-requires-clause-rest
push_pieces-requires-clause-rest c =
    number_kept c.front_of.new.arena c.derive.new.arena c.in_ok-head.rest c.in_ok-derive.ensures.extends
    c.in_ok-head.ensures.front.rest
