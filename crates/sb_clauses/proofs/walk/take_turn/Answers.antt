use Rattle.std.proofs.Common.{drop, sym, ◌∙◌, arith}
use Rattle.std.proofs.lemmas.List.{length-set}
use Rattle.sb_clauses.proofs.Moving.{list_at, popped_none}
use Rattle.sb_clauses.proofs.Walking.{turn_ends, turn_drops, number_below, turn_stays, turn_place, turn_forces, turn_stops, watched_among, turn_moves}
use Rattle.sb_clauses.proofs.walk.take_turn.Goals as goal

pub pop-requires : goal.pop-requires
pop-requires c = c.requires.walking.inside

pub returns-in_default-clause-turn : goal.returns-in_default-clause-turn
returns-in_default-clause-turn c =
    let ends = sym c.in_default.is ∙ c.pop.ensures.first in
    rw (c.pop.ensures.rest, popped_none c.args.own.now.lists.lists c.args.list ends)
    (turn_ends c.args.list _ c.requires.walking ends)

pub returns-in_default-clause-spared : goal.returns-in_default-clause-spared
returns-in_default-clause-spared c = c.requires.spared

pub way_of-requires : goal.way_of-requires
way_of-requires c =
    let below = number_below c.args.list _ c.requires.walking c.in-Some.number (sym c.in-Some.is ∙ c.pop.ensures.first)
    in
    record {
      number = below;
      other = omega (arith, below, c.requires.walking.other_places);
      readable = λ clause has.
          let placed = c.requires.walking.placed c.in-Some.number clause has in
          record {
            inside = λ some. (placed.inside some).1;
            small = placed.small;
            listed = rw c.len-lists.ensures placed.listed;
          };
      spared = c.requires.spared;
    }

pub returns-in-Gone-clause-turn : goal.returns-in-Gone-clause-turn
returns-in-Gone-clause-turn c =
    rw c.pop.ensures.rest
    (turn_drops c.args.list _ c.requires.walking c.in-Some.number (sym c.in-Some.is ∙ c.pop.ensures.first)
    c.in-Gone.ensures)

pub returns-in-Gone-clause-spared : goal.returns-in-Gone-clause-spared
returns-in-Gone-clause-spared c = c.requires.spared

pub push-requires : goal.push-requires
push-requires c = record {
  list =
      let same = length-set c.args.own.now.lists.lists c.args.list (drop 1 (list_at c.args.own.now.lists.lists c.args.list)) in
      rw c.pop.ensures.rest (omega (arith, same, c.requires.walking.inside));
  node = c.in-Some.ensures.nowhere.0;
  nowhere = c.in-Some.ensures.nowhere.1;
}

pub returns-in-Stays-clause-turn : goal.returns-in-Stays-clause-turn
returns-in-Stays-clause-turn c =
    rw (c.push.ensures, c.pop.ensures.rest)
    (turn_stays c.args.list _ c.requires.walking c.in-Some.number (sym c.in-Some.is ∙ c.pop.ensures.first)
    (rw c.pop.ensures.rest at c.in-Some.ensures.nowhere.1) c.in-Stays.ensures)

pub returns-in-Stays-clause-spared : goal.returns-in-Stays-clause-spared
returns-in-Stays-clause-spared c = c.requires.spared

pub assign-requires-clause-reserved : goal.assign-requires-clause-reserved
assign-requires-clause-reserved c =
    let forcing = c.in-Forces.ensures in
    turn_place c.args.list _ c.requires.walking c.in-Some.number (sym c.in-Some.is ∙ c.pop.ensures.first)
    (rw c.pop.ensures.rest at c.in-Some.ensures.nowhere.1) forcing.clause forcing.has c.in-Forces.literal forcing.left

pub assign-requires-clause-unassigned : goal.assign-requires-clause-unassigned
assign-requires-clause-unassigned c = c.in-Forces.ensures.left.unassigned

pub push-requires-in-Forces : goal.push-requires-in-Forces
push-requires-in-Forces c = record {
  list =
      let same = length-set c.args.own.now.lists.lists c.args.list (drop 1 (list_at c.args.own.now.lists.lists c.args.list)) in
      rw c.pop.ensures.rest (omega (arith, same, c.requires.walking.inside));
  node = c.in-Some.ensures.nowhere.0;
  nowhere = c.in-Some.ensures.nowhere.1;
}

pub returns-in-Forces-clause-turn : goal.returns-in-Forces-clause-turn
returns-in-Forces-clause-turn c =
    let forcing = c.in-Forces.ensures in
    rw (c.push-in-Forces.ensures, c.pop.ensures.rest, c.assign.ensures)
    (turn_forces c.args.list _ c.requires.walking c.in-Some.number (sym c.in-Some.is ∙ c.pop.ensures.first)
    (rw c.pop.ensures.rest at c.in-Some.ensures.nowhere.1) forcing.clause forcing.has c.in-Forces.literal forcing.left)

pub returns-in-Forces-clause-spared : goal.returns-in-Forces-clause-spared
returns-in-Forces-clause-spared c = c.requires.spared

pub change_watch-requires : goal.change_watch-requires
change_watch-requires c =
    let below = number_below c.args.list _ c.requires.walking c.in-Some.number (sym c.in-Some.is ∙ c.pop.ensures.first)
    in
    record {
      number = omega (arith, below, c.requires.walking.own_places);
      node = c.in-Some.ensures.nowhere.0;
      nowhere = c.in-Some.ensures.nowhere.1;
      list =
          rw (
            c.pop.ensures.rest,
            length-set c.args.own.now.lists.lists c.args.list (drop 1 (list_at c.args.own.now.lists.lists c.args.list)),
            ← c.len-lists.ensures,
          ) c.in-Moves.ensures.inside;
    }

pub returns-in-Moves-clause-turn : goal.returns-in-Moves-clause-turn
returns-in-Moves-clause-turn c =
    rw (c.change_watch.ensures.lists, c.change_watch.ensures.watched, c.pop.ensures.rest)
    (turn_moves c.args.list _ c.requires.walking c.in-Some.number (sym c.in-Some.is ∙ c.pop.ensures.first)
    (rw c.pop.ensures.rest at c.in-Some.ensures.nowhere.1) c.in-Moves.code
    (rw c.len-lists.ensures at c.in-Moves.ensures))

pub returns-in-Moves-clause-spared : goal.returns-in-Moves-clause-spared
returns-in-Moves-clause-spared c =
    let first = sym c.in-Some.is ∙ c.pop.ensures.first in
    c.change_watch.ensures.spared _ c.requires.spared
    (number_below c.args.list _ c.requires.walking c.in-Some.number first)
    (watched_among c.args.list _ c.requires.walking c.in-Some.number first
    (rw c.pop.ensures.rest at c.in-Some.ensures.nowhere.1) c.in-Moves.code
    (rw c.len-lists.ensures at c.in-Moves.ensures))

pub push-requires-in-False : goal.push-requires-in-False
push-requires-in-False c = record {
  list =
      let same = length-set c.args.own.now.lists.lists c.args.list (drop 1 (list_at c.args.own.now.lists.lists c.args.list)) in
      rw c.pop.ensures.rest (omega (arith, same, c.requires.walking.inside));
  node = c.in-Some.ensures.nowhere.0;
  nowhere = c.in-Some.ensures.nowhere.1;
}

pub returns-in-False-clause-turn : goal.returns-in-False-clause-turn
returns-in-False-clause-turn c =
    let lost = c.in-False.ensures in
    rw (c.push-in-False.ensures, c.pop.ensures.rest)
    (turn_stops c.args.list _ c.requires.walking c.in-Some.number (sym c.in-Some.is ∙ c.pop.ensures.first)
    (rw c.pop.ensures.rest at c.in-Some.ensures.nowhere.1) lost.clause lost.has lost.is_false)

pub returns-in-False-clause-spared : goal.returns-in-False-clause-spared
returns-in-False-clause-spared c = c.requires.spared
