use Rattle.sb_split.proofs.Words.{◌≡◌, true, take, are_small}
use Rattle.sb_split.proofs.defining.copied_characters.Given as goal

abbrev pub invariant-loop-character : goal.invariant-loop-character
invariant-loop-character l = (l.all.items ≡ take l.character-index l.characters)
    × (are_small (take l.character-index l.characters) ≡ true)
