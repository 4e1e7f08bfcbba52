use Rattle.std.proofs.Common.{◌≡◌, ℕ, ◌&&◌, ◌||◌, List, drop}
use Rattle.sb_lang.specs.Language.{language}
use Rattle.sb_regex.specs.Numbered.{regex_at, AllNumbers, Extends}
use Rattle.sb_members.specs.Members.{in_some}
use Rattle.sb_members.proofs.divide.cross_one.Given as goal

abbrev pub invariant-loop-choice : goal.invariant-loop-choice
invariant-loop-choice l =
    record {
      extends : Extends l.fn.arena l.arena;
      known : AllNumbers l.arena l.all.items;
      both : (u : List ℕ)
          → (in_some l.arena l.all.items u
          || (language (regex_at l.fn.arena l.row) u && in_some l.fn.arena (drop l.choice-index l.choices) u))
          ≡ (in_some l.fn.arena l.fn.all.items u
          || (language (regex_at l.fn.arena l.row) u && in_some l.fn.arena l.choices u));
    }
