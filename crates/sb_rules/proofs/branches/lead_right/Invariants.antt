use Rattle.std.proofs.Common.{◌≡◌, ℕ, drop}
use Rattle.std.specs.List.{list_all}
use Rattle.sb_regex.specs.Numbered.{regex_at, Extends}
use Rattle.sb_plain.specs.Memory.{IsRight}
use Rattle.sb_rules.specs.Pieces.{is_right_in}
use Rattle.sb_rules.proofs.branches.lead_right.Given as goal

abbrev pub invariant-loop-piece : goal.invariant-loop-piece
invariant-loop-piece l = record {
  extends : Extends l.fn.arena l.arena;
  right : IsRight l.arena l.plain;
  left : (c : ℕ) → list_all (is_right_in l.fn.arena (regex_at l.fn.arena l.regex) c) (drop l.piece-index l.pieces)
      ≡ list_all (is_right_in l.fn.arena (regex_at l.fn.arena l.regex) c) l.pieces;
}
