use Rattle.std.proofs.Common.{◌≡◌, ℕ, ◌&&◌, ◌||◌, List, drop}
use Rattle.sb_regex.specs.Numbered.{AllNumbers, Extends}
use Rattle.sb_members.specs.Members.{in_some}
use Rattle.sb_members.proofs.divide.cross.Given as goal

abbrev pub invariant-loop-row : goal.invariant-loop-row
invariant-loop-row l =
    record {
      extends : Extends l.fn.arena l.arena;
      known : AllNumbers l.arena l.all.items;
      both : (u : List ℕ)
          → (in_some l.arena l.all.items u
          || (in_some l.fn.arena (drop l.row-index l.rows) u && in_some l.fn.arena l.choices u))
          ≡ (in_some l.fn.arena l.rows u && in_some l.fn.arena l.choices u);
    }
