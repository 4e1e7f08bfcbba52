use Rattle.std.proofs.Common.{length, sym, ◌∙◌, ap, arith}
use Rattle.sb_clauses.specs.Propagation.{State, has_room_for}
use Rattle.sb_clauses.proofs.Room.{all_fit}
use Rattle.sb_clauses.proofs.engine.Engine.atoms.Goals as goal

pub returns : goal.returns
returns c = λ reserved wide.
    ap (λ (s : State). has_room_for reserved s.kept) (sym c.self.view_is)
    ∙ all_fit (length c.self.inside.first.lists.lists) reserved c.self.inside.clauses
    (omega (arith, wide, c.saturating_sub.ensures, c.len.ensures)) c.self.invariant.0.room.first_lists
