-- Sets of lengths below 64 as numbers: the bit n is of the length n.
use Rattle.std.specs.Prelude.{ℕ, ◌/◌, ◌%◌, ◌^◌, Bool, ◌==◌, length}
use Rattle.sb_lang.specs.Languages.{Language}

-- the length is in the set
unfoldable pub has : ℕ → ℕ → Bool
has lengths n = (lengths / 2 ^ n % 2) == 1

-- the words whose length is in the set
abbrev pub of_lengths : ℕ → Language
of_lengths lengths w = has lengths (length w)
