use Rattle.std.proofs.Common.{◌≤◌, false, length, drop}
use Rattle.sb_regex.specs.Numbered.{Extends}
use Rattle.sb_term.specs.Numbered.{term_at}
use Rattle.sb_atoms.specs.Truths.{AreReady, IsTruthOf}
use Rattle.sb_term.specs.Descending.{AreKnown}
use Rattle.sb_atoms.proofs.truth.find_truths.Given as goal

abbrev pub invariant-loop-place : goal.invariant-loop-place
invariant-loop-place l =
    (l.place ≤ length l.ids)
    × AreKnown false (λ i. IsTruthOf l.values l.truths (term_at l.table i)) l.known.entries (drop l.place l.ids)
    × Extends l.fn.arena l.arena
    × AreReady l.table l.arena l.normals l.plain

abbrev pub decreases-loop-place : goal.decreases-loop-place
decreases-loop-place l = l.place
