use Rattle.std.proofs.Common.{◌≡◌, ℕ, ◌<◌, ◌&&◌, List, length, drop}
use Rattle.std.specs.List.{All}
use Rattle.sb_members.specs.Choices.{in_each}
use Rattle.sb_members.specs.Strongest.{in_rows}
use Rattle.sb_members.proofs.needed.rows_of.Given as goal

abbrev pub invariant-loop-part : goal.invariant-loop-part
invariant-loop-part l =
    record {
      known : All (λ (row : ℕ × ℕ). row.1 < length l.arena) l.rows.items;
      same : (u : List ℕ) → (in_rows l.arena l.rows.items u && in_each l.arena (drop l.part-index l.parts) u)
          ≡ in_each l.arena l.parts u;
    }
