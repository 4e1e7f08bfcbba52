use Rattle.sb_solve.proofs.Words.{◌≡◌, true, take, list_all, is_word_there}
use Rattle.sb_solve.proofs.given.read.Given as goal

abbrev pub invariant-loop-word : goal.invariant-loop-word
invariant-loop-word l = list_all is_word_there (take l.word-index l.words) ≡ true
