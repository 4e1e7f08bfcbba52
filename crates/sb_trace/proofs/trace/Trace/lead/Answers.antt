use Rattle.std.proofs.Common.{refl, ◌∙◌}
use Rattle.sb_regex.proofs.CallerLemmas.{extends_more}
use Rattle.sb_trace.proofs.Growing.{stays_same}
use Rattle.sb_trace.proofs.Exits.{on_ok_more}
use Rattle.sb_trace.proofs.PiecePairs.{lead_pairs, lead_steps}
use Rattle.sb_trace.proofs.trace.Trace.lead.Goals as goal

pub returns-in_err-derive-2-clause-goes : goal.returns-in_err-derive-2-clause-goes
returns-in_err-derive-2-clause-goes c =
    let h = c.in_ok-derive.ensures in
    let k = c.in_err-derive-2.ensures in
    record {
      stays = stays_same c.args.self.now;
      buried = λ n. refl;
      expanded = λ n e. e;
      extends = extends_more c.args.arena.now c.derive.new.arena c.derive-2.new.arena h.extends k.extends;
      graph = k.graph;
      marks = k.marks ∙ h.marks;
      derivatives = λ n pieces e. k.derivatives_stay n pieces (h.derivatives_stay n pieces e);
    }

pub returns-clause-led : goal.returns-clause-led
returns-clause-led c =
    let h = c.in_ok-derive.ensures in
    let k = c.in_ok-derive-2.ensures in
    let rs = c.args.arena.now in
    let more = c.derive-2.new.arena in
    let ahead = c.pieces_of.result.now in
    let behind = c.pieces_of-2.result.now in
    on_ok_more c.add_pairs.result _ _
    (lead_pairs rs more c.args.first c.args.second ahead behind
    (extends_more rs c.derive.new.arena more h.extends k.extends) c.requires.first c.requires.second
    (k.graph.faithful c.args.first ahead c.pieces_of.ensures.entry)
    (k.graph.faithful c.args.second behind c.pieces_of-2.ensures.entry) c.add_pairs.new.pairs.keys)
    c.add_pairs.ensures.met

pub returns-clause-only : goal.returns-clause-only
returns-clause-only c =
    let h = c.in_ok-derive.ensures in
    let k = c.in_ok-derive-2.ensures in
    let rs = c.args.arena.now in
    let more = c.derive-2.new.arena in
    let ahead = c.pieces_of.result.now in
    let behind = c.pieces_of-2.result.now in
    on_ok_more c.add_pairs.result _ _
    (lead_steps rs more c.args.first c.args.second ahead behind
    (extends_more rs c.derive.new.arena more h.extends k.extends) c.requires.first c.requires.second
    (k.graph.faithful c.args.first ahead c.pieces_of.ensures.entry)
    (k.graph.faithful c.args.second behind c.pieces_of-2.ensures.entry) c.args.pairs.now.keys
    c.add_pairs.new.pairs.keys)
    c.add_pairs.ensures.only

pub returns-clause-goes : goal.returns-clause-goes
returns-clause-goes c =
    let h = c.in_ok-derive.ensures in
    let k = c.in_ok-derive-2.ensures in
    record {
      stays = stays_same c.args.self.now;
      buried = λ n. refl;
      expanded = λ n e. e;
      extends = extends_more c.args.arena.now c.derive.new.arena c.derive-2.new.arena h.extends k.extends;
      graph = k.graph;
      marks = k.marks ∙ h.marks;
      derivatives = λ n pieces e. k.derivatives_stay n pieces (h.derivatives_stay n pieces e);
    }
