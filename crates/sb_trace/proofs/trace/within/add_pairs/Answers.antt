use Rattle.std.proofs.Common.{◌<◌, inl, min, length, get_or, ap₂, ◌∙◌, arith}
use Rattle.std.proofs.lemmas.List.{get_or_default}
use Rattle.sb_deriv.specs.Pieces.{end_of_characters}
use Rattle.sb_trace.proofs.Pairs.{pairs_grew_none, pairs_grew_both}
use Rattle.sb_trace.proofs.PiecePairs.{stands_first, met_more, adds_more, end_grows, none_met, target_known}
use Rattle.sb_trace.proofs.trace.within.add_pairs.Goals as goal

pub loop-character-init : goal.loop-character-init
loop-character-init c = record {
  grew = pairs_grew_none c.args.pairs.now.keys;
  first = λ l. stands_first c.args.first.now c.requires.first;
  second = λ l. stands_first c.args.second.now c.requires.second;
  met = none_met c.args.arena.now c.args.first.now c.args.second.now c.args.pairs.now.keys;
  only = λ p h. inl h;
}

pub add_pair-requires : goal.add_pair-requires
add_pair-requires c =
    let low : c.loop-character.character < end_of_characters = omega (arith, c.loop-character-test.true) in
    let t = c.loop-character.invariant.second low in
    let second = c.args.second.now in
    let j = c.loop-character.j in
    let q = get_or second j c.index-second-j.result in
    record {
      known = target_known (length c.args.arena.now) second j q c.requires.known t.within
          (get_or_default second j c.index-second-j.result q t.within);
    }

pub loop-character-preserved : goal.loop-character-preserved
loop-character-preserved c =
    let low : c.loop-character.character < end_of_characters = omega (arith, c.loop-character-test.true) in
    let before = c.loop-character.invariant in
    let s = before.first low in
    let t = before.second low in
    let first = c.args.first.now in
    let second = c.args.second.now in
    let i = c.loop-character.i in
    let j = c.loop-character.j in
    let old = c.loop-character.pairs.keys in
    let new = c.add_pair.new.pairs.keys in
    let end = c.min-character.result in
    let character = c.loop-character.character in
    let p = get_or first i c.index-first-i.result in
    let q = get_or second j c.index-second-j.result in
    let is = get_or_default first i c.index-first-i.result p s.within in
    let also = get_or_default second j c.index-second-j.result q t.within in
    let ends = c.min-character.ensures ∙ ap₂ min c.end_at.ensures c.end_at-in-loop-character.ensures in
    let later = end_grows first second i j character end s t ends in
    let h = c.in_ok-add_pair.ensures in
    record {
      grew = pairs_grew_both c.args.pairs.now.keys old new before.grew h.grew;
      first = λ l. c.place_at-i.ensures character s later l (omega (arith, ends));
      second = λ l. c.place_at-j.ensures character t later l (omega (arith, ends));
      met = met_more first second c.args.pairs.now.keys old new i j character p q c.requires.first c.requires.second s t
          is also c.args.arena.now end h.grew ends h.met before.met;
      only = adds_more first second c.args.pairs.now.keys old new i j character p q c.requires.first c.requires.second
          s t is also low h.only before.only;
    }
