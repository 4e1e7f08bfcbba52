use Rattle.sb_word.proofs.FrontLemmas.{HasNumber}
use Rattle.sb_word.proofs.escape.number_of.Given as goal

abbrev pub invariant-loop-digit : goal.invariant-loop-digit
invariant-loop-digit l = HasNumber l.digits l.digit-index l.number
