use Rattle.std.proofs.Common.{◌≡◌, ℕ, ◌&&◌, List, drop}
use Rattle.sb_lang.specs.Language.{language}
use Rattle.sb_regex.specs.Numbered.{regex_at, AllNumbers, Extends}
use Rattle.sb_members.specs.Members.{in_some}
use Rattle.sb_members.specs.Choices.{in_each}
use Rattle.sb_members.proofs.divide.cross_all.Given as goal

abbrev pub invariant-loop-part : goal.invariant-loop-part
invariant-loop-part l =
    record {
      extends : Extends l.fn.arena l.arena;
      known : AllNumbers l.arena l.rows.items;
      both : (u : List ℕ) → (in_some l.arena l.rows.items u && in_each l.fn.arena (drop l.part-index l.unions) u)
          ≡ (language (regex_at l.fn.arena l.fn.first) u && in_each l.fn.arena l.unions u);
    }
