-- Private: what an analysis of a conflict shows.
use Rattle.std.specs.Prelude.{ℕ, Bool, ◌==◌, map, reverse}
use Rattle.std.specs.HashSet.{HashSet, contains}
use Rattle.sb_analyze.specs.declared.analysis.Analysis.{Analysis}
use Rattle.sb_analyze.specs.Explaining.{Explanation}

-- the atoms that the set has
abbrev pub marks_of : {S : Type 0} → HashSet ℕ S → ℕ → Bool
marks_of seen atom = contains (λ a b. a == b) seen atom

abbrev pub shown : Analysis → Explanation
shown a = record {
  level = a.level;
  marks = marks_of a.seen;
  pending = a.pending;
  clause = a.clause.items;
  hints =
      map (λ id. id.0) (reverse a.reasons.items);
}
