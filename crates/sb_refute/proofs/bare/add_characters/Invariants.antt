use Rattle.sb_refute.proofs.Words.{◌≡◌, ◌++◌, take}
use Rattle.sb_refute.proofs.bare.add_characters.Given as goal

abbrev pub invariant-loop-character : goal.invariant-loop-character
invariant-loop-character l = l.word.items ≡ l.fn.word.items ++ take l.character-index l.characters
