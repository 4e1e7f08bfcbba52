-- Private: the character of an index.
use Rattle.std.specs.Prelude.{ℕ, Option, None}
use Rattle.sb_word.specs.LiteralWords.{character_of}
use Rattle.sb_reader.specs.Forms.{Form, OtherNumber}
use Rattle.sb_script.specs.Heads.{hexadecimal_digits}

-- the character of (_ char #xH), by its index
abbrev pub character_in : Form → Option ℕ
character_in (OtherNumber bytes) = character_of (hexadecimal_digits bytes)
character_in _ = None
