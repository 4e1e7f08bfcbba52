-- The words of the crates below that definitions and contracts speak of.
pub use Rattle.sb_lit.specs.Clauses.{negation}
pub use Rattle.sb_lit.specs.declared.clause.Lit.{Lit}
pub use Rattle.sb_lang.specs.Regex.{Regex}
pub use Rattle.sb_regex.specs.Numbered.{regex_at, regexes_at}
pub use Rattle.sb_script.specs.Pieces.{Piece, constant_piece, word_piece}
pub use Rattle.sb_rulebook.specs.Atoms.{Atom, AtomOver, bool_atom, in_atom}
pub use Rattle.sb_rulebook.specs.Translation.{in_order}
pub use Rattle.sb_sound.specs.ClauseForms.{of_sign, plus, minus}
pub use Rattle.sb_sound.specs.HintLaws.{Ascend}
pub use Rattle.sb_atoms.specs.Numbered.{HaveRegexesBelow, Names, over, atoms_in}
