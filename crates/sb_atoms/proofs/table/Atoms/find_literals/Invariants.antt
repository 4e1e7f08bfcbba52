use Rattle.std.proofs.Common.{◌≤◌, None, length, drop}
use Rattle.std.specs.List.{list_all}
use Rattle.sb_rulebook.specs.Translation.{translation}
use Rattle.sb_term.specs.Numbered.{term_at}
use Rattle.sb_atoms.specs.Translated.{has_declared}
use Rattle.sb_atoms.specs.Growing.{is_below, Finds, AreReady, Moves}
use Rattle.sb_term.specs.Descending.{AreKnown}
use Rattle.sb_atoms.proofs.table.Atoms.find_literals.Given as goal

abbrev pub invariant-loop-place : goal.invariant-loop-place
invariant-loop-place l =
    (l.place ≤ length l.ids)
    × AreKnown None (λ i found. Finds is_below l.adds l.arena l.self
    (λ atoms. translation atoms (term_at l.table i)) found) l.known.entries (drop l.place l.ids)
    × Moves l.adds (λ sorts. list_all (λ i. has_declared sorts (term_at l.table i)) l.ids) l.fn.arena l.arena
    l.fn.self l.self
    × AreReady l.table l.measures l.normals l.arena l.self

abbrev pub decreases-loop-place : goal.decreases-loop-place
decreases-loop-place l = l.place
