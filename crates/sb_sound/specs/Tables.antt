-- Tables of atoms, and valuations, of which the laws speak.
use Rattle.std.specs.Prelude.{ℕ}
use Rattle.sb_word.specs.Words.{IsWord}
use Rattle.sb_meaning.specs.Values.{Valuation}
use Rattle.sb_rulebook.specs.Atoms.{word_at}
pub use Rattle.sb_rulebook.specs.Tables.{names_below, is_table_from, is_table}

-- the words of the valuation are words of characters
abbrev pub HasWords : Valuation → Type 0
HasWords v = (serial : ℕ) → IsWord (word_at v serial)
