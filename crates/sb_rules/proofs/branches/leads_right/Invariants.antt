use Rattle.std.proofs.Common.{◌≡◌, ℕ, ◌<◌, ◌≤◌, ◌-◌, true, length, get_or}
use Rattle.sb_lang.specs.Order.{regex_eq}
use Rattle.sb_lang.specs.Derivative.{nd}
use Rattle.sb_regex.specs.Numbered.{regex_at, Extends}
use Rattle.sb_plain.specs.Memory.{IsRight}
use Rattle.sb_rules.proofs.branches.leads_right.Given as goal

abbrev pub invariant-loop-place : goal.invariant-loop-place
invariant-loop-place l = record {
  extends : Extends l.fn.arena l.arena;
  right : IsRight l.arena l.plain;
  past : (k : ℕ) → k < l.place → l.first < get_or l.points k 0
      → regex_eq (nd (regex_at l.fn.arena l.regex) (get_or l.points k 0)) (regex_at l.fn.arena l.target) ≡ true;
  ahead : (k : ℕ) → l.place ≤ k → k < length l.points → l.first < get_or l.points k 0;
}

abbrev pub decreases-loop-place : goal.decreases-loop-place
decreases-loop-place l = length l.points - l.place
