use Rattle.sb_clauses.proofs.Walked.{advances_then}
use Rattle.std.proofs.Common.{refl, inl}
use Rattle.sb_clauses.proofs.Growing.{GrowsBy-none}
use Rattle.sb_clauses.proofs.walk.take_turns.Goals as goal

pub loop-id-preserved : goal.loop-id-preserved
loop-id-preserved c = record {
  spared = c.take_turn.ensures.spared;
  walking = c.take_turn.ensures.turn.walking;
  advances = advances_then _ _ _ _ _ _ _ _ _ _ _ c.loop-id.invariant.advances c.take_turn.ensures.turn.advances;
}

pub returns-in-Ends-clause-advances : goal.returns-in-Ends-clause-advances
returns-in-Ends-clause-advances c =
    advances_then _ _ _ _ _ _ _ _ _ _ _ c.loop-id.invariant.advances c.take_turn.ensures.turn.advances

pub returns-in-Stops-clause-advances : goal.returns-in-Stops-clause-advances
returns-in-Stops-clause-advances c =
    advances_then _ _ _ _ _ _ _ _ _ _ _ c.loop-id.invariant.advances c.take_turn.ensures.turn.advances

pub loop-id-init : goal.loop-id-init
loop-id-init c = record {
  spared = c.requires.spared;
  walking = c.requires.walking;
  advances = record { grows = GrowsBy-none _ _; len = refl; moved = λ id clause has. inl refl };
}
