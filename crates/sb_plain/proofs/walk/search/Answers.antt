use Rattle.std.proofs.Common.{◌∙◌, ◌++◌, ◌∷◌, [], ap}
use Rattle.std.proofs.lemmas.Result.{IfOk-from_err}
use Rattle.sb_regex.proofs.CallerLemmas.{extends_same, extends_more}
use Rattle.sb_plain.specs.Walking.{fresh}
use Rattle.sb_plain.proofs.Turns.{popped, none_popped, top_known, top_fails, found_by_top, states_begun}
use Rattle.sb_plain.proofs.walk.search.Goals as goal

pub loop-turn-init : goal.loop-turn-init
loop-turn-init c = record {
  extends = extends_same c.args.arena.now;
  right = c.requires.right;
  fails = c.requires.failed;
  same = c.requires.same;
  states = states_begun c.args.arena.now c.args.codes.now c.args.r c.args.place c.push.new.self.items c.requires.known
      c.requires.place (c.in_ok-push.ensures.items ∙ ap (λ xs. xs ++ fresh c.args.place c.args.r ∷ [])
      c.new-states.ensures.items);
}

pub returns-in_default : goal.returns-in_default
returns-in_default c =
    let i = c.loop-turn.invariant in
    record {
      found = none_popped c.loop-turn.arena c.args.codes.now _ c.loop-turn.states c.in_default.ensures.cases.0
          c.loop-turn.invariant.states;
      extends = i.extends;
      right = i.right;
      failed = i.fails;
    }

pub take_turn-requires-clause-state : goal.take_turn-requires-clause-state
take_turn-requires-clause-state c =
    top_known c.loop-turn.arena c.args.codes.now c.pop.new.self.items c.in-Some.state
    (popped c.loop-turn.arena c.args.codes.now _ c.loop-turn.states.items c.pop.new.self.items c.in-Some.state
    c.in-Some.ensures.items c.loop-turn.invariant.states).waiting

pub take_turn-requires-clause-fails : goal.take_turn-requires-clause-fails
take_turn-requires-clause-fails c = λ e.
    top_fails c.loop-turn.arena c.args.codes.now c.pop.new.self.items c.in-Some.state
    (popped c.loop-turn.arena c.args.codes.now _ c.loop-turn.states.items c.pop.new.self.items c.in-Some.state
    c.in-Some.ensures.items c.loop-turn.invariant.states).waiting e

pub take_turn-requires-clause-same : goal.take_turn-requires-clause-same
take_turn-requires-clause-same c = c.loop-turn.invariant.same

pub take_turn-requires-clause-right : goal.take_turn-requires-clause-right
take_turn-requires-clause-right c = c.loop-turn.invariant.right

pub take_turn-requires-clause-failed : goal.take_turn-requires-clause-failed
take_turn-requires-clause-failed c = c.loop-turn.invariant.fails

pub returns-in_err-take_turn : goal.returns-in_err-take_turn
returns-in_err-take_turn c =
    let x = c.from_residual-in_err-take_turn in
    let e = c.take_turn.ensures in
    record {
      found = IfOk-from_err x.result _ x.ensures.0;
      extends = extends_more c.args.arena.now c.loop-turn.arena c.take_turn.new.arena c.loop-turn.invariant.extends
          c.in_err-take_turn.ensures.extends;
      right = e.right;
      failed = e.failed;
    }

pub returns-then-branch : goal.returns-then-branch
returns-then-branch c =
    let e = c.in_ok-take_turn.ensures in
    record {
      found = found_by_top c.loop-turn.arena c.args.codes.now _ c.pop.new.self.items c.in-Some.state
          (c.in_ok-take_turn.ensures.found c.if-branch.true)
          (popped c.loop-turn.arena c.args.codes.now _ c.loop-turn.states.items c.pop.new.self.items c.in-Some.state
          c.in-Some.ensures.items c.loop-turn.invariant.states);
      extends = extends_more c.args.arena.now c.loop-turn.arena c.take_turn.new.arena c.loop-turn.invariant.extends
          c.in_ok-take_turn.ensures.extends;
      right = e.right;
      failed = e.failed;
    }

pub loop-turn-preserved : goal.loop-turn-preserved
loop-turn-preserved c = record {
  extends = extends_more c.args.arena.now c.loop-turn.arena c.take_turn.new.arena c.loop-turn.invariant.extends
      c.in_ok-take_turn.ensures.extends;
  right = c.in_ok-take_turn.ensures.right;
  fails = c.in_ok-take_turn.ensures.failed;
  same = c.in_ok-take_turn.ensures.same;
  states = c.in_ok-take_turn.ensures.next c.if-branch.false _
      (popped c.loop-turn.arena c.args.codes.now _ c.loop-turn.states.items c.pop.new.self.items c.in-Some.state
      c.in-Some.ensures.items c.loop-turn.invariant.states);
}

pub returns-in_err-push : goal.returns-in_err-push
returns-in_err-push c =
    let x = c.from_residual in
    record {
      found = IfOk-from_err x.result _ x.ensures.0;
      extends = extends_same c.args.arena.now;
      right = c.requires.right;
      failed = c.requires.failed;
    }

pub returns : goal.returns
returns c =
    let i = c.loop-turn.invariant in
    record {
      found = tt;
      extends = i.extends;
      right = i.right;
      failed = i.fails;
    }
