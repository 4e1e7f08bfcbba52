-- The words of the crates below that definitions and contracts speak of.
pub use Rattle.sb_lit.specs.Clauses.{is_same_literal, negation}
pub use Rattle.sb_lit.specs.declared.clause.Lit.{Lit}
pub use Rattle.sb_lang.specs.Regex.{Regex}
pub use Rattle.sb_regex.specs.Numbered.{Extends, regex_at}
pub use Rattle.sb_graph.specs.Findings.{Findings, IsGraph}
pub use Rattle.sb_rulebook.specs.Atoms.{AtomOver, bool_atom, in_atom}
pub use Rattle.sb_sound.specs.HintLaws.{Ascend, HasNoSubset}
pub use Rattle.sb_atoms.specs.Numbered.{HaveRegexesBelow, atoms_in}
pub use Rattle.sb_trace.specs.Tracking.{Traced, Tracks, is_dead_in}
