use Rattle.sb_prover.proofs.Words.{◌≡◌, take}
use Rattle.sb_prover.proofs.verdict.characters_of.Given as goal

abbrev pub invariant-loop-code : goal.invariant-loop-code
invariant-loop-code l = l.characters.items ≡ take l.code-index l.codes
