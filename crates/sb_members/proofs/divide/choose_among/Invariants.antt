use Rattle.std.proofs.Common.{◌≡◌, ℕ, ◌&&◌, List, drop}
use Rattle.sb_regex.specs.Numbered.{AllNumbers}
use Rattle.sb_members.specs.Choices.{in_each}
use Rattle.sb_members.proofs.divide.choose_among.Given as goal

abbrev pub invariant-loop-part : goal.invariant-loop-part
invariant-loop-part l =
    record {
      whole : AllNumbers l.arena l.whole.items;
      divided : AllNumbers l.arena l.divided.items;
      both : (u : List ℕ)
          → ((in_each l.arena l.whole.items u && in_each l.arena l.divided.items u)
          && in_each l.arena (drop l.part-index l.parts) u) ≡ in_each l.arena l.parts u;
    }
