use Rattle.sb_sound.proofs.PieceFacts.{pieces_keep}
use Rattle.sb_sound.proofs.terms.pieces_keep_word.Goals as goal

pub returns : goal.returns
returns c = pieces_keep
