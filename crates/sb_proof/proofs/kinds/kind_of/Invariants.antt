use Rattle.std.proofs.Common.{◌≡◌, drop}
use Rattle.sb_proof.specs.Kinds.{look_up}
use Rattle.sb_proof.proofs.kinds.kind_of.Given as goal

abbrev pub invariant-loop-text : goal.invariant-loop-text
invariant-loop-text g l = look_up l.table l.word ≡ look_up (drop l.text-index l.table) l.word
